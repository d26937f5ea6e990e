-- Lines of a stream of bytes: what is kept of a line while it comes in, where it ends, and the frame that it stands for. How many
-- characters of a line may count is a parameter of all of them, `longest`.
-- Assumes nothing.
use Rattle.std.specs.Prelude.{ℕ, cond, List, [], ◌∷◌, ◌++◌, leb, ltb, eqb, take, length}
use Rattle.lines.specs.Hex.{Read, bytes, faulty_text, read_hex}

-- a line so far: its characters, or that there were more than `longest`
pub data LineSoFar : Type 0 where
  kept : List ℕ → LineSoFar
  over : LineSoFar

-- what comes of a line so far and a piece of input: the line, ended by an LF, and the input after it, or the line still open
pub data Scan : Type 0 where
  line_ended : LineSoFar → List ℕ → Scan
  partly : LineSoFar → Scan

module _ (longest : ℕ) where
  -- one character more
  abbrev pub more : LineSoFar → ℕ → LineSoFar
  more (kept l) c = cond (ltb (length l) longest) (kept (l ++ (c ∷ []))) over
  more over c = over

  -- what a count and a buffer hold: a count past `longest` stands for any line that is too long
  abbrev pub line_of : ℕ → List ℕ → LineSoFar
  line_of n buf = cond (leb n longest) (kept (take n buf)) over

  unfoldable pub scan : LineSoFar → List ℕ → Scan
  scan l [] = partly l
  scan l (c ∷ rest) = cond (eqb c 10) (line_ended l rest) (scan (more l c) rest)

-- the bytes that a text stands for, none where it is faulty
abbrev pub bytes_or : Read → List ℕ
bytes_or (bytes xs) = xs
bytes_or faulty_text = []

-- "A faulty or over-long line counts as an empty frame."
abbrev pub frame_of_line : LineSoFar → List ℕ
frame_of_line (kept l) = bytes_or (read_hex l)
frame_of_line over = []
