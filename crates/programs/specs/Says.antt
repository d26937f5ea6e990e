-- WHAT BOTH PROGRAMS PRINT, in document 01's words: each line of the input is a frame, each frame a call of document 01's fresh
-- controller or reader, and each call's reply and bytes a line.
-- Assumes nothing.
use Rattle.std.specs.Prelude.{ℕ, ◌≡◌}
use mathlib.Core.List.{List, [], ◌∷◌, ◌++◌, map, flatten}
use Rattle.lines.specs.Hex.{hex_of, decimal_of}
use Rattle.lines.specs.Frames.{frames_of}
use Rattle.paper.specs.Controller.{start}
use Rattle.paper.specs.Reader.{reader_start}
use Rattle.paper.specs.Runs.{Call, call, replies, readings}
use Rattle.programs.specs.Reader.{spaced}
use Rattle.programs.specs.Programs.{longest, bench, reader}

-- "It prints, per line, the reply as two hexadecimal digits and then the output bytes, in capitals."
abbrev pub bench_line : ℕ × List ℕ → List ℕ
bench_line said = hex_of (said.0 ∷ said.1) ++ (10 ∷ [])

-- "prints replies in decimal, then handed-out bytes after a space"
abbrev pub reader_line : ℕ × List ℕ → List ℕ
reader_line said = decimal_of said.0 ++ (spaced said.1 ++ (10 ∷ []))

-- a line for each call's reply and bytes
abbrev pub lines_of : (ℕ × List ℕ → List ℕ) → List (ℕ × List ℕ) → List ℕ
lines_of line said = flatten (map line said)

-- frames as calls, each with an output of so many bytes
abbrev pub lent : ℕ → List (List ℕ) → List Call
lent room frames = map (λ f. call f room) frames

-- for any input
pub record Says : Type 0 where
  pub bench_says : (input : List ℕ) → bench input ≡ lines_of bench_line (replies start (lent 126 (frames_of longest input)))
  pub reader_says : (input : List ℕ) → reader input ≡ lines_of reader_line (readings reader_start (lent 776 (frames_of longest input)))
