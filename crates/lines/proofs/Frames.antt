-- What is written for an input is the text of the answers to its frames, and those frames are of bytes. Assumes nothing.
use mathlib.Core.Path.{◌≡◌, refl, sym, ap, ◌∙◌}
use mathlib.Core.Bool.{Bool, true, false, cond}
use mathlib.Core.List.{List, [], ◌∷◌, ◌++◌, map, append-nil}
use Prim.Native.Nat.{ℕ, zero, suc, ◌+◌, ◌*◌, ◌≤◌, ◌<◌}
use native.Mathlib.Omega.{arith}
use lib.Dec.{leb, ltb, eqb}
use lib.ListN.{length, length-append}
use borrow.Author.Tests.{le-leb, lt-leb, ltb-true, ltb-false}
use Rattle.wire.specs.Wire.{Bytes}
use Rattle.lines.specs.Hex.{Read, bytes, faulty_text, front, pair, read_hex, value_of}
use Rattle.lines.specs.Lines.{LineSoFar, kept, over, more, bytes_or, frame_of_line}
use Rattle.lines.specs.Talk.{Way, talk, lastly, whole_text, spoken}
use Rattle.lines.specs.Frames.{in_front, lines_in, frame_for, frames_of, EachOfBytes, answers}
use Rattle.lines.proofs.Talk.{on, wrote}

-- ---- a line still open, and the lines of more input

-- the characters p before the lines of what follows them
abbrev joins : List ℕ → List (List ℕ) → List (List ℕ)
joins [] ls = ls
joins (x ∷ p) ls = in_front x (joins p ls)

joins_more : (p : List ℕ) (c : ℕ) (ls : List (List ℕ)) → joins (p ++ (c ∷ [])) ls ≡ joins p (in_front c ls)
joins_more [] c ls = refl
joins_more (x ∷ p) c ls = ap (in_front x) (joins_more p c ls)

joins_ended : (p : List ℕ) (ls : List (List ℕ)) → joins p ([] ∷ ls) ≡ p ∷ ls
joins_ended [] ls = refl
joins_ended (x ∷ p) ls = ap (in_front x) (joins_ended p ls)

joins_last : (x : ℕ) (p : List ℕ) → joins (x ∷ p) [] ≡ (x ∷ p) ∷ []
joins_last x [] = refl
joins_last x (y ∷ p) = ap (in_front x) (joins_last y p)

module _ (longest : ℕ) where
  -- what is kept of the characters p of an open line
  abbrev held : List ℕ → LineSoFar
  held p = cond (leb (length p) longest) (kept p) over

  held_none : held [] ≡ kept []
  held_none = rw (le-leb 0 longest (omega arith))

  held-frame : (p : List ℕ) → frame_of_line (held p) ≡ frame_for longest p
  held-frame p = on (λ (b : Bool). frame_of_line (cond b (kept p) over) ≡ cond b (bytes_or (read_hex p)) []) (leb (length p) longest) refl refl

  held_more : (p : List ℕ) (c : ℕ) → more longest (held p) c ≡ held (p ++ (c ∷ []))
  held_more p c = by (ltb (length p) longest) refl
    where
      by : (b : Bool) → ltb (length p) longest ≡ b → more longest (held p) c ≡ held (p ++ (c ∷ []))
      by true e =
          let h = ltb-true (length p) longest e in
          let k : length p ≤ longest = omega arith in
          let m : length (p ++ (c ∷ [])) ≤ longest = omega (arith, length-append p (c ∷ [])) in
          rw (le-leb (length p) longest k, le-leb (length (p ++ (c ∷ []))) longest m, e)
      by false e =
          let h = ltb-false (length p) longest e in
          let m : longest < length (p ++ (c ∷ [])) = omega (arith, length-append p (c ∷ [])) in
          rw (lt-leb (length (p ++ (c ∷ []))) longest m)
          (on (λ (b : Bool). more longest (cond b (kept p) over) c ≡ over) (leb (length p) longest) (rw e) refl)

  module _ (a : Way) where
    -- an open line when the input ends
    ends : (p s : List ℕ) → (lastly a (held p) s).text ≡ answers a s (map (frame_for longest) (joins p []))
    unfolding answers
    ends [] s = rw held_none
    ends (x ∷ p) s =
        on
        (λ (b : Bool). (lastly a (cond b (kept (x ∷ p)) over) s).text ≡ (a s (cond b (bytes_or (read_hex (x ∷ p))) [])).text)
        (leb (length (x ∷ p)) longest)
        refl
        refl
        ∙ sym (append-nil (a s (frame_for longest (x ∷ p))).text)
        ∙ ap (λ (ls : List (List ℕ)). answers a s (map (frame_for longest) ls)) (sym (joins_last x p))

    goes_on : (p s input : List ℕ) → whole_text a (talk longest a [] (held p) s input) ≡ answers a s (map (frame_for longest) (joins p (lines_in input)))
    unfolding talk answers lines_in
    goes_on p s [] = ends p s
    goes_on p s (c ∷ rest) =
        let f : List ℕ = frame_of_line (held p) in
        on
        (λ (b : Bool).
        whole_text a (cond b (talk longest a (a s f).text (kept []) (a s f).state rest) (talk longest a [] (more longest (held p) c) s rest))
        ≡ answers a s (map (frame_for longest) (joins p (cond b ([] ∷ lines_in rest) (in_front c (lines_in rest))))))
        (eqb c 10)
        (wrote longest a (a s f).text (kept []) (a s f).state rest
        ∙ ap (λ (l : LineSoFar). (a s f).text ++ whole_text a (talk longest a [] l (a s f).state rest)) (sym held_none)
        ∙ ap (λ (t : List ℕ). (a s f).text ++ t) (goes_on [] (a s f).state rest)
        ∙ ap (λ (g : List ℕ). answers a s (g ∷ map (frame_for longest) (lines_in rest))) (held-frame p)
        ∙ ap (λ (ls : List (List ℕ)). answers a s (map (frame_for longest) ls)) (sym (joins_ended p (lines_in rest))))
        (ap (λ (l : LineSoFar). whole_text a (talk longest a [] l s rest)) (held_more p c)
        ∙ goes_on (p ++ (c ∷ [])) s rest
        ∙ ap (λ (ls : List (List ℕ)). answers a s (map (frame_for longest) ls)) (joins_more p c (lines_in rest)))

    -- WHAT IS WRITTEN FOR AN INPUT is the text of the answers to its frames
    pub spoken-answers : (s input : List ℕ) → spoken longest a s input ≡ answers a s (frames_of longest input)
    spoken-answers s input = ap (λ (l : LineSoFar). whole_text a (talk longest a [] l s input)) (sym held_none) ∙ goes_on [] s input

-- ---- frames are of bytes

none-of-bytes : Bytes []
none-of-bytes i = omega arith

front-of-bytes : (x : ℕ) (r : Read) → x < 256 → Bytes (bytes_or r) → Bytes (bytes_or (front x r))
front-of-bytes x (bytes xs) h k zero = h
front-of-bytes x (bytes xs) h k (suc i) = k i
front-of-bytes x faulty_text h k i = k i

-- two digits are a byte
pair-of-bytes : (h l : ℕ) (r : Read) → Bytes (bytes_or r) → Bytes (bytes_or (pair h l r))
pair-of-bytes h l r k = at (ltb h 16) refl (ltb l 16) refl
  where
    at : (a : Bool) → ltb h 16 ≡ a → (b : Bool) → ltb l 16 ≡ b → Bytes (bytes_or (cond a (cond b (front (h * 16 + l) r) faulty_text) faulty_text))
    at true p true q = front-of-bytes (h * 16 + l) r (omega (arith, ltb-true h 16 p, ltb-true l 16 q)) k
    at true p false q = none-of-bytes
    at false p b q = none-of-bytes

read-of-bytes : (l : List ℕ) → Bytes (bytes_or (read_hex l))
unfolding read_hex
read-of-bytes [] = none-of-bytes
read-of-bytes (a ∷ []) = none-of-bytes
read-of-bytes (a ∷ b ∷ rest) = pair-of-bytes (value_of a) (value_of b) (read_hex rest) (read-of-bytes rest)

frame-of-bytes : (longest : ℕ) (l : List ℕ) → Bytes (frame_for longest l)
frame-of-bytes longest l = on (λ (b : Bool). Bytes (cond b (bytes_or (read_hex l)) [])) (leb (length l) longest) (read-of-bytes l) none-of-bytes

each-of-bytes : (longest : ℕ) (ls : List (List ℕ)) → EachOfBytes (map (frame_for longest) ls)
each-of-bytes longest [] = tt
each-of-bytes longest (l ∷ ls) = (frame-of-bytes longest l, each-of-bytes longest ls)

pub frames-of-bytes : (longest : ℕ) (input : List ℕ) → EachOfBytes (frames_of longest input)
frames-of-bytes longest input = each-of-bytes longest (lines_in input)
