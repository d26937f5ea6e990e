-- Which machine answers, as a value: one set of words for both programs.
-- Assumes nothing.
use Rattle.std.specs.Prelude.{ℕ, List}
use Rattle.lines.specs.Talk.{Way}
use Rattle.programs.specs.Bench as Bench
use Rattle.programs.specs.Reader as Reader
use Rattle.answering.specs.declared.Machine.{Machine}
use Rattle.answering.specs.declared.Machine.TheVariants.{Controller, Reader}

-- what a machine says to a frame, as text, and the state that it leaves
abbrev pub answer_to : Machine → Way
answer_to Controller = Bench.answer_to
answer_to Reader = Reader.answer_to

-- the state that its program begins with
abbrev pub begun : Machine → List ℕ
begun Controller = Bench.begun
begun Reader = Reader.begun

-- the longest line is the reader's: two digits, a space, 776 bytes and an LF
abbrev pub most_text : ℕ
most_text = 1556
