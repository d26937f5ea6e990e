-- Laws of digits read straight from a chunk. Assumes nothing.
use mathlib.Core.Path.{◌≡◌, refl, sym, ap, ◌∙◌}
use mathlib.Core.Bool.{Bool, true, false, cond}
use mathlib.Core.List.{List, [], ◌∷◌, ◌++◌, append_assoc}
use Prim.Native.Nat.{ℕ, suc, ◌+◌, ◌-◌, ◌*◌, ◌≤◌, ◌<◌}
use native.Mathlib.Numerals.{add-one}
use native.Mathlib.Omega.{arith}
use lib.Dec.{ltb}
use lib.ListN.{length, take, drop, get_or, set, length-set, length-append, length-drop}
use lib.Seq.{drop-cons, length-take-le, take-add, drop-drop, take_at, take_all}
use borrow.Author.Tests.{lt-ltb, ltb-true}
use Rattle.lines.specs.Hex.{Read, bytes, faulty_text, front, bytes_in_front, pair, read_hex, value_of}
use Rattle.hexdigits.proofs.HexDigits.{fronts-none, stored}
use Rattle.std.specs.Array.{IsFirstChunk}
use Rattle.hexrun.specs.Reading.{Reading}

-- what two characters and a rest that stand for bytes are: two digits, and a rest that stands for bytes
pub record Digits (h l : ℕ) (r : Read) (o : List ℕ) : Type 0 where
  pub high : h < 16
  pub low : l < 16
  pub others : List ℕ
  pub rest : r ≡ bytes others
  pub all : o ≡ (h * 16 + l) ∷ others

pub digits : (h l : ℕ) (r : Read) (o : List ℕ) → pair h l r ≡ bytes o → Digits h l r o
digits h l r o e = by (ltb h 16) (ltb l 16) refl refl r refl e
  where
    by : (a b : Bool) → ltb h 16 ≡ a → ltb l 16 ≡ b → (q : Read) → r ≡ q → cond a (cond b (front (h * 16 + l) q) faulty_text) faulty_text ≡ bytes o → Digits h l r o
    by true true p q (bytes xs) s t = record { high = ltb-true h 16 p; low = ltb-true l 16 q; others = xs; rest = s; all = cc }
    by true true p q faulty_text s t = absurd (let z : ◌≡◌ {A = ℕ} 0 1 = cc in omega arith)
    by true false p q x s t = absurd (let z : ◌≡◌ {A = ℕ} 0 1 = cc in omega arith)
    by false b p q x s t = absurd (let z : ◌≡◌ {A = ℕ} 0 1 = cc in omega arith)

in_front_lem : (x : ℕ) (xs : List ℕ) (r : Read) → front x (bytes_in_front xs r) ≡ bytes_in_front (x ∷ xs) r
in_front_lem x xs (bytes ys) = refl
in_front_lem x xs faulty_text = refl

-- a text behind one that stands for bytes
read_behind : (l t xs : List ℕ) → read_hex l ≡ bytes xs → read_hex (l ++ t) ≡ bytes_in_front xs (read_hex t)
unfolding read_hex
read_behind [] t xs e =
    let p : xs ≡ [] = cc in
    rw p (sym (fronts-none (read_hex t)))
read_behind (a ∷ []) t xs e = absurd (let z : ◌≡◌ {A = ℕ} 0 1 = cc in omega arith)
read_behind (a ∷ b ∷ l) t xs e =
    let d = digits (value_of a) (value_of b) (read_hex l) xs e in
    rw (d.all, read_behind l t d.others d.rest, lt-ltb (value_of a) 16 d.high, lt-ltb (value_of b) 16 d.low) (in_front_lem (value_of a * 16 + value_of b) d.others (read_hex t))

-- nothing read yet
pub reading_none : (from : ℕ) (chunk frame : List ℕ) → from ≤ length chunk → Reading from 0 chunk frame
unfolding read_hex
reading_none from chunk frame h = record { within = omega arith; short = omega arith; read = refl }

-- m bytes more
pub reading-more : (from n m : ℕ) (chunk frame frame' o : List ℕ) → Reading from n chunk frame → from + 2 * n + 2 * m ≤ length chunk → n + m ≤ length frame'
    → read_hex (take (2 * m) (drop (from + 2 * n) chunk)) ≡ bytes o → take (n + m) frame' ≡ take n frame ++ o
    → Reading from (n + m) chunk frame'
reading-more from n m chunk frame frame' o r h k e f =
    let l : List ℕ = take (2 * n) (drop from chunk) in
    let t : List ℕ = take (2 * m) (drop (from + 2 * n) chunk) in
    let two : 2 * (n + m) ≡ 2 * n + 2 * m = omega arith in
    let split : take (2 * (n + m)) (drop from chunk) ≡ l ++ t =
    ap (λ (x : ℕ). take x (drop from chunk)) two ∙ take-add (2 * n) (2 * m) (drop from chunk) ∙ ap (λ (x : List ℕ). l ++ take (2 * m) x) (drop-drop (2 * n) from chunk) in
    record {
      within = omega arith;
      short = k;
      read = ap read_hex split ∙ read_behind l t (take n frame) r.read ∙ ap (bytes_in_front (take n frame)) e ∙ ap bytes (sym f);
    }

-- a pair of digits
read-pair : (s : List ℕ) (i b : ℕ) → i + 1 < length s → ((r : Read) → pair (value_of (get_or s i 0)) (value_of (get_or s (i + 1) 0)) r ≡ front b r)
    → read_hex (take 2 (drop i s)) ≡ bytes (b ∷ [])
unfolding read_hex
read-pair s i b a e =
    let p : i < length s = omega arith in
    let q : suc i < length s = omega arith in
    let e' : pair (value_of (get_or s i 0)) (value_of (get_or s (suc i) 0)) (bytes []) ≡ bytes (b ∷ []) = rw add-one at (e (bytes [])) in
    rw (drop-cons s i 0 p, drop-cons s (suc i) 0 q) e'

pub reading-pair : (from n b : ℕ) (chunk frame : List ℕ) → Reading from n chunk frame → from + 2 * n + 1 < length chunk → n < length frame
    → ((r : Read) → pair (value_of (get_or chunk (from + 2 * n) 0)) (value_of (get_or chunk (from + 2 * n + 1) 0)) r ≡ front b r)
    → Reading from (n + 1) chunk (set frame n b)
reading-pair from n b chunk frame r h k e =
    reading-more from n 1 chunk frame (set frame n b) (b ∷ []) r (omega arith) (simp length-set (omega arith)) (read-pair chunk (from + 2 * n) b h e) (stored frame n b k)

-- a block of 16 bytes more, with any tail behind it
pub reading_block : (from n : ℕ) (chunk frame text o tail : List ℕ) → Reading from n chunk frame
    → IsFirstChunk (take (length chunk - (from + 2 * n)) (drop (from + 2 * n) chunk)) text 32 → n ≤ length frame → length o ≡ 16 → read_hex text ≡ bytes o
    → Reading from (n + 16) chunk (take n frame ++ (o ++ tail))
reading_block from n chunk frame text o tail r f b l e =
    let rest : take (length chunk - (from + 2 * n)) (drop (from + 2 * n) chunk) ≡ drop (from + 2 * n) chunk =
    take_all _ _ (omega (arith, length-drop (from + 2 * n) chunk)) in
    let room : 32 ≤ length (drop (from + 2 * n) chunk) = rw rest at f.enough in
    let front : length (take n frame) ≡ n = length-take-le n frame b in
    reading-more from n 16 chunk frame (take n frame ++ (o ++ tail)) o r (omega (arith, length-drop (from + 2 * n) chunk)) (simp length-append (omega arith))
    (sym (ap read_hex (f.same ∙ ap (take 32) rest)) ∙ e)
    (ap (take (n + 16)) (sym (append_assoc (take n frame) o tail)) ∙ take_at (take n frame ++ o) tail (n + 16) (simp length-append (omega arith)))
