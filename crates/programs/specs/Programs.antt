-- Both programs: each takes lines of hexadecimal "the same way", and its machine answers each frame. Lines are those of `lines`.
-- Assumes nothing.
use Rattle.std.specs.Prelude.{ℕ, List}
use Rattle.lines.specs.Talk.{spoken}
use Rattle.programs.specs.Bench as Bench
use Rattle.programs.specs.Reader as Reader

-- "at most 1,028 digits"
abbrev pub longest : ℕ
longest = 1028

-- all that program bench prints for an input, and program reader
unfoldable pub bench : List ℕ → List ℕ
bench input = spoken longest Bench.answer_to Bench.begun input

unfoldable pub reader : List ℕ → List ℕ
reader input = spoken longest Reader.answer_to Reader.begun input
