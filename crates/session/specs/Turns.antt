-- What comes of a chunk of input: what was to come where a turn began is what is to come where it stopped.
-- Assumes nothing.
use Rattle.std.specs.Prelude.{◌≡◌, ℕ, ◌≤◌, ◌<◌, List, drop}
use Rattle.lines.specs.Lines.{LineSoFar}
use Rattle.lines.specs.Talk.{Talk, talk}
use Rattle.programs.specs.Programs.{longest}
use Rattle.answering.specs.Machines.{answer_to}
use Rattle.answering.specs.declared.Machine.{Machine}

-- what comes of a chunk from index `at` on, where that text is there and that line is open
abbrev pub to_come : Machine → (at : ℕ) (chunk text : List ℕ) (line : LineSoFar) (state : List ℕ) → Talk
to_come m at chunk text line state =
    talk longest (answer_to m) text line state (drop at chunk)

-- a turn that began at `from` and stopped at `at`: what is to come from where it stopped, with the text, the line and the state that
-- it left, is what was to come where it began
abbrev pub GoesOn : Machine → (from at : ℕ) (chunk text : List ℕ) (line : LineSoFar) (state text' : List ℕ) (line' : LineSoFar) (state' : List ℕ) → Type 0
GoesOn m from at chunk text line state text' line' state' =
    to_come m at chunk text' line' state' ≡ to_come m from chunk text line state

-- where a turn stopped that began at `from` of a chunk of that length
pub record Within (from size at : ℕ) : Type 0 where
  pub at_most : at ≤ size
  pub onward : from < size → from < at
