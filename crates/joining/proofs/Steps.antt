-- One turn of the loop that lays pieces, and its end: what is left to do gives the same.
-- Assumes nothing.
use Rattle.std.proofs.Common.{◌≡◌, ℕ, suc, ◌+◌, ◌-◌, ◌*◌, ◌%◌, ◌<◌, List, [], ◌∷◌, drop, add_assoc, arith, drop-drop}
use Rattle.wire.specs.Wire.{be16, bytes16, part, put}
use Rattle.state.specs.Layout.{waiting_at, count_at, slot_at}
use Rattle.state.specs.View.{first_in, waiting_in}
use Rattle.machine.specs.Stores.{slot, laid, queued_on}

-- piece j of k is laid
pub lay_more : (s : List ℕ) (i n t k : ℕ) (x : List ℕ) (j : ℕ) → j < k
    → laid s (i + j) (n + j) t (k - j) (drop (118 * j) x)
    ≡ laid (put s (slot_at ((i + j) % 48)) (slot t (n + j) (part x (118 * j) 118))) (i + (j + 1)) (n + (j + 1)) t (k - (j + 1))
    (drop (118 * (j + 1)) x)
unfolding laid
lay_more s i n t k x j h =
    let e : k - j ≡ suc (k - (j + 1)) = omega arith in
    let d : 118 * (j + 1) ≡ 118 * j + 118 = omega arith in
    rw (e, d, ← add_assoc i j 1, ← add_assoc n j 1, ← drop-drop 118 (118 * j) x)

-- all pieces are laid, and the numbers that the code read are the bytes'
pub queued_end : (s : List ℕ) (t k : ℕ) (x l : List ℕ) (first waiting n at m : ℕ) → l ≡ laid s (first + waiting) n t k x
    → first ≡ first_in s → waiting ≡ waiting_in s → n ≡ be16 s at → at ≡ count_at t → m ≡ (n + k) % 65536
    → put (put l waiting_at ((waiting + k) ∷ [])) at (bytes16 m) ≡ queued_on s t k x
unfolding queued_on
queued_end s t k x l first waiting n at m done f w c a e = rw (e, done, c, a, w, f)
