-- The pieces in slots: how many they are, one after another, and a piece in the slot that it was stored or moved into.
-- Assumes nothing.
use mathlib.Core.Path.{◌≡◌, refl, sym, ap, ◌∙◌}
use mathlib.Core.List.{List, [], ◌∷◌, ◌++◌}
use Prim.Native.Nat.{ℕ, zero, suc, ◌+◌, ◌*◌, ◌/◌, ◌%◌, ◌≤◌, ◌<◌}
use native.Mathlib.Nat.{add_assoc, add-zero, zero-add, suc-add}
use native.Mathlib.Omega.{arith}
use lib.ListN.{length, take, get_or}
use lib.Seq.{take_all, ext_get_or}
use Rattle.wire.specs.Wire.{be16, bytes16, part, put}
use Rattle.wire.proofs.Runs.{length_part, get_or-part, part-put_inside, be16-put_inside}
use Rattle.paper.specs.Queue.{Piece, piece}
use Rattle.state.specs.Layout.{slot_at, state_bytes}
use Rattle.state.specs.View.{piece_in, pieces_in}

pub length-pieces : (s : List ℕ) (i n : ℕ) → length (pieces_in s i n) ≡ n
unfolding pieces_in
length-pieces s i zero = refl
length-pieces s i (suc n) = ap suc (length-pieces s (i + 1) n)

-- past the last slot comes slot 0, so places that are equal modulo 48 are one
pub pieces_round : (s : List ℕ) (i j n : ℕ) → i % 48 ≡ j % 48 → pieces_in s i n ≡ pieces_in s j n
unfolding pieces_in
pieces_round s i j zero e = refl
pieces_round s i j (suc n) e = rw (e, pieces_round s (i + 1) (j + 1) n (omega arith))

pub pieces-append : (s : List ℕ) (i n m : ℕ) → pieces_in s i (n + m) ≡ pieces_in s i n ++ pieces_in s (i + n) m
unfolding pieces_in
pieces-append s i zero m = rw (zero-add m, add-zero i)
pieces-append s i (suc n) m =
    let e : i + 1 + n ≡ i + suc n = omega arith in
    rw (suc-add n m, pieces-append s (i + 1) n m, e)

-- a piece more at the end
pub pieces_snoc : (s : List ℕ) (i n : ℕ) → pieces_in s i (n + 1) ≡ pieces_in s i n ++ (piece_in s ((i + n) % 48) ∷ [])
unfolding pieces_in
pieces_snoc s i n = pieces-append s i n 1

-- ---- what stands in a slot

-- the piece that 120 bytes are
abbrev pub piece_of : List ℕ → Piece (List ℕ)
piece_of v = piece (be16 v 0 % 16) (be16 v 0 / 16) (part v 2 118)

-- a part of a part
part-part : (x : List ℕ) (at m i n : ℕ) → at + m ≤ length x → i + n ≤ m → part (part x at m) i n ≡ part x (at + i) n
part-part x at m i n h b =
    let l : length (part x at m) ≡ m = length_part x at m h in
    let e : length (part (part x at m) i n) ≡ n = length_part (part x at m) i n (omega arith) in
    ext_get_or 0 _ _ (e ∙ sym (length_part x (at + i) n (omega arith)))
    (λ j c.
    let d : j < n = rw e at c in
    get_or-part (part x at m) i n j d
    ∙ get_or-part x at m (i + j) (omega arith)
    ∙ ap (λ (k : ℕ). get_or x k 0) (sym (add_assoc at i j))
    ∙ sym (get_or-part x (at + i) n j d))

-- the piece in a slot is the one that its bytes are
pub piece_bytes : (s : List ℕ) (j : ℕ) → j < 48 → state_bytes ≤ length s → piece_of (part s (slot_at j) 120) ≡ piece_in s j
piece_bytes s j l w =
    let a = rw add-zero at (get_or-part s (slot_at j) 120 0 (omega arith)) in
    let b = get_or-part s (slot_at j) 120 1 (omega arith) in
    let tag : be16 (part s (slot_at j) 120) 0 ≡ be16 s (slot_at j) = omega arith in
    let body = part-part s (slot_at j) 120 2 118 (omega arith) (omega arith) in
    λ i. piece (tag i % 16) (tag i / 16) (body i)

-- bytes that are stored in a slot
pub piece_stored : (s : List ℕ) (j : ℕ) (v : List ℕ) → j < 48 → length v ≡ 120 → state_bytes ≤ length s
    → piece_in (put s (slot_at j) v) j ≡ piece_of v
piece_stored s j v l e w =
    let fits : slot_at j + length v ≤ length s = omega arith in
    let tag : be16 (put s (slot_at j) v) (slot_at j) ≡ be16 v 0 =
    rw add-zero at (be16-put_inside s (slot_at j) v fits 0 (omega arith)) in
    let body = part-put_inside s (slot_at j) v fits 2 118 (omega arith) in
    λ i. piece (tag i % 16) (tag i / 16) (body i)

-- a tag and 118 bytes
pub piece-of : (t n : ℕ) (body : List ℕ) → t < 16 → length body ≡ 118
    → piece_of (bytes16 (n % 4096 * 16 + t) ++ body) ≡ piece t (n % 4096) body
piece-of t n body l e =
    let tag : ℕ = n % 4096 * 16 + t in
    let whole : tag / 256 * 256 + tag % 256 ≡ tag = omega arith in
    let stream : (tag / 256 * 256 + tag % 256) % 16 ≡ t = omega arith in
    let count : (tag / 256 * 256 + tag % 256) / 16 ≡ n % 4096 = omega arith in
    let rest : take 118 body ≡ body = take_all 118 body (omega arith) in
    λ i. piece (stream i) (count i) (rest i)
