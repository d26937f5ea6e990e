-- What a program writes that answers each line of its input, for any way of answering a frame.
-- Assumes nothing.
use Rattle.std.specs.Prelude.{ℕ, cond, List, [], ◌∷◌, ◌++◌, eqb}
use Rattle.lines.specs.Lines.{LineSoFar, kept, over, more, frame_of_line}

-- what a frame gets: the text of its answer, and the state that is left
pub record Answer : Type 0 where
  pub text : List ℕ
  pub state : List ℕ

-- a way of answering: of a state and a frame
abbrev pub Way : Type 0
Way = List ℕ → List ℕ → Answer

-- the text written so far, the line still open, and the state
pub record Talk : Type 0 where
  pub text : List ℕ
  pub line : LineSoFar
  pub state : List ℕ

-- "a last line may lack it if not empty": what an open line still gets when the input ends
abbrev pub lastly : Way → LineSoFar → List ℕ → Answer
lastly a (kept []) s = record { text = []; state = s }
lastly a (kept (c ∷ l)) s = a s (frame_of_line (kept (c ∷ l)))
lastly a over s = a s (frame_of_line over)

-- the text with what the open line still gets
abbrev pub whole_text : Way → Talk → List ℕ
whole_text a k = k.text ++ (lastly a k.line k.state).text

module _ (longest : ℕ) (a : Way) where
  -- what comes of the text t, the open line l, the state s and more input: each LF ends a line, and the line's frame is answered
  unfoldable pub talk : List ℕ → LineSoFar → List ℕ → List ℕ → Talk
  talk t l s [] = record { text = t; line = l; state = s }
  talk t l s (c ∷ rest) =
      cond (eqb c 10)
      (talk (t ++ (a s (frame_of_line l)).text) (kept []) (a s (frame_of_line l)).state rest)
      (talk t (more longest l c) s rest)

  -- all that is written for a whole input
  abbrev pub spoken : List ℕ → List ℕ → List ℕ
  spoken s input = whole_text a (talk [] (kept []) s input)

  -- all that is written where the input comes in chunks, and each chunk goes on with the line and the state that are left
  unfoldable pub spoken_in : LineSoFar → List ℕ → List (List ℕ) → List ℕ
  spoken_in l s [] = (lastly a l s).text
  spoken_in l s (c ∷ cs) =
      (talk [] l s c).text ++ spoken_in (talk [] l s c).line (talk [] l s c).state cs
