-- What is to come of a chunk, done.
-- Assumes nothing.
use Rattle.std.specs.Prelude.{ℕ, ◌<◌, ◌≡◌, List, length, Result, Ok, Err}
use Rattle.lines.specs.Lines.{LineSoFar}
use Rattle.lines.specs.Talk.{Talk}

-- the work did what was to come, k: the line and the state that it left are k's, and the output took all of k's text, `said` bytes
pub record ServedAll (k : Talk) (line : LineSoFar) (state : List ℕ) (said : ℕ) : Type 0 where
  pub line_left : line ≡ k.line
  pub state_left : state ≡ k.state
  pub all_said : said ≡ length k.text

-- so it did, or the output took less
abbrev pub Served : Talk → LineSoFar → List ℕ → Result ℕ ℕ → Type 0
Served k line state (Ok said) = ServedAll k line state said
Served k line state (Err said) = said < length k.text
