-- Laws of a scan, character by character, that this crate's proofs, and a caller's, cite. Assumes nothing.
use mathlib.Core.Path.{◌≡◌, refl, sym, ap, ◌∙◌}
use mathlib.Core.Bool.{Bool, true, false, cond}
use mathlib.Core.List.{List, [], ◌∷◌, ◌++◌, append_assoc, append-nil}
use Prim.Native.Nat.{ℕ, suc, ◌+◌, ◌≤◌, ◌<◌}
use native.Mathlib.Omega.{arith}
use native.Mathlib.Numerals.{add-one}
use lib.Dec.{eqb, leb, ltb}
use lib.ListN.{length, take, drop, get_or, drop_of_length-le, length-append, take-append-drop}
use lib.Seq.{drop-cons, length-take-le}
use borrow.Author.Tests.{eq-eqb, ne_eqb, le-leb, lt-leb, lt-ltb, leb-true, ltb-true}
use Rattle.std.specs.Prelude.{All, ◌≢◌}
use Rattle.hexline.specs.Open.{more_by}
use Rattle.lines.specs.Lines.{LineSoFar, kept, over, more, line_of, line_ended, partly, scan}

module _ (longest : ℕ) where
  -- the scan from i on, by its first character
  scan_one : (l : LineSoFar) (s : List ℕ) (i : ℕ) → i < length s
      → scan longest l (drop i s) ≡ cond (eqb (get_or s i 0) 10) (line_ended l (drop (i + 1) s)) (scan longest (more longest l (get_or s i 0)) (drop (i + 1) s))
  unfolding scan
  scan_one l s i h = rw (add-one, drop-cons s i 0 h)

  -- at the end of the chunk
  pub scan-end : (l : LineSoFar) (s : List ℕ) (i : ℕ) → length s ≤ i → scan longest l (drop i s) ≡ partly l
  unfolding scan
  scan-end l s i h = rw (drop_of_length-le s h)

  -- at an LF
  pub scan-ended : (l : LineSoFar) (s : List ℕ) (i : ℕ) → i < length s → get_or s i 0 ≡ 10 → scan longest l (drop i s) ≡ line_ended l (drop (i + 1) s)
  scan-ended l s i h e = scan_one l s i h ∙ rw (eq-eqb (get_or s i 0) 10 e)

  -- characters that there is room for
  more_by-kept : (l s : List ℕ) → length l + length s ≤ longest → more_by longest (kept l) s ≡ kept (l ++ s)
  more_by-kept l [] h = rw (append-nil l) refl
  more_by-kept l (c ∷ s) h =
      let l' : List ℕ = l ++ (c ∷ []) in
      let k : length l' ≡ length l + 1 = length-append l (c ∷ []) in
      ap (λ (x : LineSoFar). more_by longest x s) (fits l c (omega arith))
      ∙ more_by-kept l' s (omega arith)
      ∙ ap kept (append_assoc l (c ∷ []) s)
    where
      fits : (l : List ℕ) (c : ℕ) → length l < longest → more longest (kept l) c ≡ kept (l ++ (c ∷ []))
      fits l c h = rw (lt-ltb (length l) longest h) refl

  -- of a line that is too long
  more_by-over : (s : List ℕ) → more_by longest over s ≡ over
  more_by-over [] = refl
  more_by-over (c ∷ s) = more_by-over s

  -- characters that there is no room for
  long_step : (l : List ℕ) (c : ℕ) (s : List ℕ) → (length (l ++ (c ∷ [])) ≤ longest → more_by longest (kept (l ++ (c ∷ []))) s ≡ over)
      → (b : Bool) → ltb (length l) longest ≡ b → more_by longest (cond b (kept (l ++ (c ∷ []))) over) s ≡ over
  long_step l c s r true e = r (omega (arith, length-append l (c ∷ []), ltb-true (length l) longest e))
  long_step l c s r false e = more_by-over s

  more_by-long : (l s : List ℕ) → longest < length l + length s → length l ≤ longest → more_by longest (kept l) s ≡ over
  more_by-long l [] h k = absurd (omega arith)
  more_by-long l (c ∷ s) h k =
      long_step l c s (λ m. more_by-long (l ++ (c ∷ [])) s (omega (arith, length-append l (c ∷ []))) m) (ltb (length l) longest) refl

  -- a line in its array, with more characters: there is room
  pub line_of-fits : (n : ℕ) (xs s ys : List ℕ) → length xs ≡ longest → n + length s ≤ longest → take (n + length s) ys ≡ take n xs ++ s
      → line_of longest (n + length s) ys ≡ more_by longest (line_of longest n xs) s
  line_of-fits n xs s ys e h t =
      let a : n ≤ longest = omega arith in
      let b : length (take n xs) ≡ n = length-take-le n xs (omega arith) in
      rw (le-leb (n + length s) longest h, le-leb n longest a) (ap kept t ∙ sym (more_by-kept (take n xs) s (omega arith)))

  -- there is none
  pub line_of-long : (n : ℕ) (xs s ys : List ℕ) → length xs ≡ longest → longest < n + length s → line_of longest (longest + 1) ys ≡ more_by longest (line_of longest n xs) s
  line_of-long n xs s ys e h = rw (lt-leb (longest + 1) longest (omega arith)) (sym (by (leb n longest) refl))
    where
      by : (b : Bool) → leb n longest ≡ b → more_by longest (cond b (kept (take n xs)) over) s ≡ over
      by true p =
          let a : n ≤ longest = leb-true n longest p in
          let b : length (take n xs) ≡ n = length-take-le n xs (omega arith) in
          more_by-long (take n xs) s (omega arith) (omega arith)
      by false p = more_by-over s

  -- characters without an LF are taken for the line
  scan-by : (l : LineSoFar) (s rest : List ℕ) → All (λ c. c ≢ 10) s → scan longest l (s ++ rest) ≡ scan longest (more_by longest l s) rest
  unfolding scan
  scan-by l [] rest a = refl
  scan-by l (c ∷ s) rest a = rw (ne_eqb c 10 (a 0 0 (omega arith))) (scan-by (more longest l c) s rest (λ k d h. a (suc k) d (omega arith)))

  -- the first n characters of a text, none of them an LF
  pub scan-first : (l : LineSoFar) (s : List ℕ) (n : ℕ) → All (λ c. c ≢ 10) (take n s) → scan longest l s ≡ scan longest (more_by longest l (take n s)) (drop n s)
  scan-first l s n a =
      ap (scan longest l) (sym (take-append-drop n s))
      ∙ scan-by l (take n s) (drop n s) a
