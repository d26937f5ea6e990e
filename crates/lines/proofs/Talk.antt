-- Laws of `talk` for any way of answering: what a turn of the loop leaves to come, and that it does not matter how the input is
-- cut. Assumes nothing.
use mathlib.Core.Path.{◌≡◌, refl, sym, ap, ◌∙◌}
use mathlib.Core.Bool.{Bool, true, false, cond}
use mathlib.Core.List.{List, [], ◌∷◌, ◌++◌, append_assoc, append-nil, flatten}
use Prim.Native.Nat.{ℕ}
use lib.Dec.{eqb}
use Rattle.lines.specs.Lines.{LineSoFar, kept, over, more, Scan, line_ended, partly, scan, frame_of_line}
use Rattle.lines.specs.Talk.{Answer, Way, Talk, talk, lastly, whole_text, spoken_in}

-- what holds at both truth values holds at each
pub on : (P : Bool → Type 0) (b : Bool) → P true → P false → P b
on P true x y = x
on P false x y = y

module _ (longest : ℕ) (a : Way) where
  -- a line answered, and more input
  abbrev next : List ℕ → LineSoFar → List ℕ → List ℕ → Talk
  next t l s rest = talk longest a (t ++ (a s (frame_of_line l)).text) (kept []) (a s (frame_of_line l)).state rest

  -- what comes after a scan
  abbrev after : List ℕ → List ℕ → Scan → Talk
  after t s (line_ended l rest) = next t l s rest
  after t s (partly l) = record { text = t; line = l; state = s }

  talk-scan : (t : List ℕ) (l : LineSoFar) (s i : List ℕ) → talk longest a t l s i ≡ after t s (scan longest l i)
  unfolding talk scan
  talk-scan t l s [] = refl
  talk-scan t l s (c ∷ rest) =
      on
      (λ (b : Bool). cond b (next t l s rest) (talk longest a t (more longest l c) s rest) ≡ after t s (cond b (line_ended l rest) (scan longest (more longest l c) rest)))
      (eqb c 10)
      refl
      (talk-scan t (more longest l c) s rest)

  -- a turn that ended at an LF
  pub turn_ended : (t t' : List ℕ) (l l' : LineSoFar) (s s' rest input : List ℕ) → line_ended l' rest ≡ scan longest l input
      → t' ≡ t ++ (a s (frame_of_line l')).text → s' ≡ (a s (frame_of_line l')).state
      → talk longest a t' (kept []) s' rest ≡ talk longest a t l s input
  turn_ended t t' l l' s s' rest input q e f = rw (e, f) (ap (after t s) q ∙ sym (talk-scan t l s input))

  -- a turn that came to the end of its input
  pub turn_partly : (t : List ℕ) (l l' : LineSoFar) (s rest input : List ℕ) → partly l' ≡ scan longest l input → rest ≡ []
      → talk longest a t l' s rest ≡ talk longest a t l s input
  unfolding talk
  turn_partly t l l' s rest input q e = ap (talk longest a t l' s) e ∙ ap (after t s) q ∙ sym (talk-scan t l s input)

  -- the end of the input: an open line that is not empty is answered
  pub last_line : (l : LineSoFar) (s : List ℕ) → (l ≡ kept [] → ⊥) → a s (frame_of_line l) ≡ lastly a l s
  last_line (kept []) s h = absurd (h refl)
  last_line (kept (c ∷ l)) s h = refl
  last_line over s h = refl

  -- and so it is by an LF: what comes of one is the open line's answer
  pub last-feed : (l : LineSoFar) (s : List ℕ) → (l ≡ kept [] → ⊥)
      → talk longest a [] l s (10 ∷ [])
      ≡ record { text = (lastly a l s).text; line = kept []; state = (lastly a l s).state }
  unfolding talk
  last-feed l s h = ap (λ (x : Answer). record { text = x.text; line = kept []; state = x.state }) (last_line l s h)

  -- a second piece of input goes on with what the first left
  pub talk-append : (t : List ℕ) (l : LineSoFar) (s i j : List ℕ) → talk longest a t l s (i ++ j) ≡ talk longest a (talk longest a t l s i).text (talk longest a t l s i).line (talk longest a t l s i).state j
  unfolding talk
  talk-append t l s [] j = refl
  talk-append t l s (c ∷ i) j =
      on
      (λ (x : Bool).
      cond x (next t l s (i ++ j)) (talk longest a t (more longest l c) s (i ++ j))
      ≡ talk
      longest
      a
      (cond x (next t l s i) (talk longest a t (more longest l c) s i)).text
      (cond x (next t l s i) (talk longest a t (more longest l c) s i)).line
      (cond x (next t l s i) (talk longest a t (more longest l c) s i)).state
      j)
      (eqb c 10)
      (talk-append (t ++ (a s (frame_of_line l)).text) (kept []) (a s (frame_of_line l)).state i j)
      (talk-append t (more longest l c) s i j)

  -- the same talk behind text that was written before
  abbrev behind : List ℕ → Talk → Talk
  behind t k = record { text = t ++ k.text; line = k.line; state = k.state }

  -- what was written before stays in front, and changes nothing else
  pub talk-text : (t : List ℕ) (l : LineSoFar) (s i : List ℕ) → talk longest a t l s i ≡ behind t (talk longest a [] l s i)
  unfolding talk
  talk-text t l s [] = rw append-nil
  talk-text t l s (c ∷ i) =
      on
      (λ (x : Bool). cond x (next t l s i) (talk longest a t (more longest l c) s i) ≡ behind t (cond x (next [] l s i) (talk longest a [] (more longest l c) s i)))
      (eqb c 10)
      (talk-text (t ++ (a s (frame_of_line l)).text) (kept []) (a s (frame_of_line l)).state i
      ∙ rw (talk-text (a s (frame_of_line l)).text (kept []) (a s (frame_of_line l)).state i, append_assoc))
      (talk-text t (more longest l c) s i)

  -- what is written is the text so far, and then what would be written without it
  pub wrote : (t : List ℕ) (l : LineSoFar) (s i : List ℕ) → whole_text a (talk longest a t l s i) ≡ t ++ whole_text a (talk longest a [] l s i)
  wrote t l s i = ap (whole_text a) (talk-text t l s i) ∙ append_assoc t (talk longest a [] l s i).text _

  -- HOW THE INPUT IS CUT DOES NOT MATTER: chunks one after another get what they get as one
  pub cut : (l : LineSoFar) (s : List ℕ) (cs : List (List ℕ)) → spoken_in longest a l s cs ≡ whole_text a (talk longest a [] l s (flatten cs))
  unfolding talk spoken_in flatten
  cut l s [] = refl
  cut l s (c ∷ cs) =
      let k = talk longest a [] l s c in
      ap (λ (x : List ℕ). k.text ++ x) (cut k.line k.state cs)
      ∙ sym (wrote k.text k.line k.state (flatten cs))
      ∙ ap (whole_text a) (sym (talk-append [] l s c (flatten cs)))
