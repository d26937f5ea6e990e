-- Program bench: what it writes for a frame.
-- Assumes nothing.
use Rattle.std.specs.Prelude.{ℕ, cond, List, [], ◌∷◌, ◌++◌, eqb, take, get_or, replicate}
use Rattle.lines.specs.Hex.{hex_of}
use Rattle.lines.specs.Talk.{Answer, Way}
use Rattle.state.specs.Layout.{state_bytes}
use Rattle.lent.specs.Told.{Res}
use Rattle.machine.specs.Called.{step_of, start_of}

-- "Accepted polls write 126 bytes, status 2, others none"; "No refusal touches the output."
unfoldable pub bytes_written : ℕ → List ℕ → ℕ
bytes_written reply f = cond (eqb reply 0) (cond (eqb (get_or f 0 0) 5) 126 (cond (eqb (get_or f 0 0) 6) 2 0)) 0

-- the output bytes that are printed: those that were written
abbrev pub shown_bytes : List ℕ → Res → List ℕ
shown_bytes f o = take (bytes_written o.reply f) o.out

-- "the reply as two hexadecimal digits and then the output bytes, in capitals", and an LF
abbrev pub line_for : List ℕ → Res → List ℕ
line_for f o = hex_of (o.reply ∷ shown_bytes f o) ++ (10 ∷ [])

-- each frame finds an output of 126 zeros
unfoldable pub blank : List ℕ
blank = replicate 126 0

-- what bench writes for a frame, and the state that is left
abbrev pub answered : List ℕ → Res → Answer
answered f o = record { text = line_for f o; state = o.state }

abbrev pub answer_to : Way
answer_to s f = answered f (step_of s f blank)

-- the state that bench begins with: a start on zeros
unfoldable pub begun : List ℕ
begun = (start_of (replicate state_bytes 0)).state
