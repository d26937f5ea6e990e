-- Laws of digits and bytes that this crate's proofs, and a caller's, cite. Assumes nothing.
use mathlib.Core.Path.{◌≡◌, refl, sym, ap, ◌∙◌}
use mathlib.Core.Bool.{Bool, true, false}
use mathlib.Core.List.{List, [], ◌∷◌, ◌++◌, append_assoc, append-nil}
use Prim.Native.Nat.{ℕ, suc, ◌+◌, ◌*◌, ◌/◌, ◌%◌, ◌≤◌, ◌<◌}
use native.Mathlib.Numerals.{add-one}
use native.Mathlib.Omega.{arith}
use lib.Dec.{eqb}
use lib.ListN.{length, take, drop, get_or, set, length-set, drop_of_length-le}
use lib.Seq.{drop-cons, take-suc-set}
use Rattle.std.specs.Prelude.{Option, ◌≢◌}
use Rattle.std.specs.Bool.{then_some}
use Rattle.std.proofs.lemmas.Bool.{eqb-true, eqb-false}
use Rattle.hexdigits.specs.Decodes.{read_in, byte_count}
use Rattle.lines.specs.Hex.{Read, bytes, faulty_text, front, bytes_in_front, pair, read_hex, value_of, hex_of, digit_of}

-- one element stored at n, and the count raised
pub stored : (l : List ℕ) (n x : ℕ) → n < length l → take (n + 1) (set l n x) ≡ take n l ++ (x ∷ [])
stored l n x h = rw add-one (take-suc-set l n x h)

-- two elements stored at n, and the count raised by two
pub stored_two : (l : List ℕ) (n a b : ℕ) → n + 1 < length l → take (n + 2) (set (set l n a) (n + 1) b) ≡ take n l ++ (a ∷ b ∷ [])
stored_two l n a b h =
    let e : n + 2 ≡ n + 1 + 1 = omega arith in
    ap (λ (k : ℕ). take k (set (set l n a) (n + 1) b)) e
    ∙ stored (set l n a) (n + 1) b (simp length-set h)
    ∙ ap (λ (t : List ℕ). t ++ (b ∷ [])) (stored l n a (omega arith))
    ∙ append_assoc (take n l) (a ∷ []) (b ∷ [])

-- the text from i on starts with the two digits of the byte there
hex_one : (s : List ℕ) (i : ℕ) → i < length s → hex_of (drop i s) ≡ digit_of (get_or s i 0 / 16) ∷ digit_of (get_or s i 0 % 16) ∷ hex_of (drop (i + 1) s)
unfolding hex_of
hex_one s i h = rw (add-one, drop-cons s i 0 h)

-- a byte's digits written
pub hex-step : (s out : List ℕ) (i a b : ℕ) → i < length s → 2 * i + 1 < length out → a ≡ digit_of (get_or s i 0 / 16) → b ≡ digit_of (get_or s i 0 % 16)
    → take (2 * (i + 1)) (set (set out (2 * i) a) (2 * i + 1) b) ++ hex_of (drop (i + 1) s) ≡ take (2 * i) out ++ hex_of (drop i s)
hex-step s out i a b h k ea eb =
    let two : 2 * (i + 1) ≡ 2 * i + 2 = omega arith in
    ap (λ (n : ℕ). take n (set (set out (2 * i) a) (2 * i + 1) b) ++ hex_of (drop (i + 1) s)) two
    ∙ ap (λ (t : List ℕ). t ++ hex_of (drop (i + 1) s)) (stored_two out (2 * i) a b k)
    ∙ append_assoc (take (2 * i) out) (a ∷ b ∷ []) (hex_of (drop (i + 1) s))
    ∙ rw (ea, eb, hex_one s i h)

-- no byte left
pub hex-end : (s t : List ℕ) (i : ℕ) → length s ≤ i → t ++ hex_of (drop i s) ≡ t
unfolding hex_of
hex-end s t i h = rw (drop_of_length-le s h) (append-nil t)

-- nothing put in front of what a text says
pub fronts-none : (r : Read) → bytes_in_front [] r ≡ r
fronts-none (bytes ys) = refl
fronts-none faulty_text = refl

fronts-front : (xs : List ℕ) (x : ℕ) (r : Read) → bytes_in_front xs (front x r) ≡ bytes_in_front (xs ++ (x ∷ [])) r
fronts-front xs x (bytes ys) = ap bytes (sym (append_assoc xs (x ∷ []) ys))
fronts-front xs x faulty_text = refl

-- the text from i on, by its first two characters
read_two : (s : List ℕ) (i : ℕ) → i + 1 < length s
    → read_hex (drop i s) ≡ pair (value_of (get_or s i 0)) (value_of (get_or s (i + 1) 0)) (read_hex (drop (i + 2) s))
unfolding read_hex
read_two s i h =
    let e : i + 2 ≡ suc (suc i) = omega arith in
    let a : i < length s = omega arith in
    let b : suc i < length s = omega arith in
    ap read_hex (drop-cons s i 0 a ∙ ap (λ (t : List ℕ). get_or s i 0 ∷ t) (drop-cons s (suc i) 0 b))
    ∙ rw (e, add-one)

-- a turn: two digits, and their byte stored
pub read_step : (s out : List ℕ) (n b : ℕ) → 2 * n + 1 < length s → n < length out
    → ((r : Read) → pair (value_of (get_or s (2 * n) 0)) (value_of (get_or s (2 * n + 1) 0)) r ≡ front b r)
    → bytes_in_front (take (n + 1) (set out n b)) (read_hex (drop (2 * (n + 1)) s)) ≡ bytes_in_front (take n out) (read_hex (drop (2 * n) s))
read_step s out n b h k e =
    let two : 2 * n + 2 ≡ 2 * (n + 1) = omega arith in
    let rest : Read = read_hex (drop (2 * (n + 1)) s) in
    ap (λ (t : List ℕ). bytes_in_front t rest) (stored out n b k)
    ∙ sym (fronts-front (take n out) b rest)
    ∙ ap (bytes_in_front (take n out)) (sym (rw two at (read_two s (2 * n) h) ∙ e rest))

-- two characters that are no two digits
pub read_no_pair : (s : List ℕ) (n : ℕ) → 2 * n + 1 < length s → ((r : Read) → pair (value_of (get_or s (2 * n) 0)) (value_of (get_or s (2 * n + 1) 0)) r ≡ faulty_text)
    → read_hex (drop (2 * n) s) ≡ faulty_text
read_no_pair s n h e = read_two s (2 * n) h ∙ e _

-- one character left
pub read_odd : (s : List ℕ) (i : ℕ) → i < length s → length s ≤ i + 1 → read_hex (drop i s) ≡ faulty_text
unfolding read_hex
read_odd s i a b =
    let k : length s ≤ suc i = omega arith in
    ap read_hex (drop-cons s i 0 a ∙ ap (λ (t : List ℕ). get_or s i 0 ∷ t) (drop_of_length-le s k))

-- none left
pub read-end : (s out : List ℕ) (n : ℕ) → length s ≤ 2 * n → bytes_in_front (take n out) (read_hex (drop (2 * n) s)) ≡ bytes (take n out)
unfolding read_hex
read-end s out n a = rw (drop_of_length-le s a) (ap bytes (append-nil (take n out)))

-- no pair left: none, or one character
pub read_ends : (s out : List ℕ) (n : ℕ) (r : Option ℕ) → n ≡ length s / 2 → r ≡ then_some (eqb (length s % 2) 0) n → n ≤ length out
    → (byte_count r ≤ length out) × (read_in r out ≡ bytes_in_front (take n out) (read_hex (drop (2 * n) s)))
read_ends s out n r e k h = rw k (by (eqb (length s % 2) 0) refl)
  where
    by : (b : Bool) → eqb (length s % 2) 0 ≡ b
        → (byte_count (then_some b n) ≤ length out) × (read_in (then_some b n) out ≡ bytes_in_front (take n out) (read_hex (drop (2 * n) s)))
    by true q =
        let z : length s % 2 ≡ 0 = eqb-true _ _ q in
        (h, sym (read-end s out n (omega arith)))
    by false q =
        let z : length s % 2 ≢ 0 = eqb-false _ _ q in
        (omega arith, sym (ap (bytes_in_front (take n out)) (read_odd s (2 * n) (omega arith) (omega arith))))
