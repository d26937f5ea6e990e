-- Where the search for a line's end stopped, and what it found.
-- Assumes nothing.
use Rattle.std.specs.Prelude.{ℕ, ◌+◌, ◌*◌, ◌≤◌, ◌<◌, ◌≡◌, List, [], length, take, drop, get_or, Option, Some, None}
use Rattle.lines.specs.Lines.{LineSoFar, kept, line_ended, partly, scan, frame_of_line}
use Rattle.hexrun.specs.Reading.{Reading}
use Rattle.straight.specs.declared.Ended.{Ended}

-- a line that stands whole in the chunk, from `from` on, and of which no characters came before: its bytes are read, and an LF
-- is behind its digits
pub record WholeLine (from size : ℕ) (line : LineSoFar) (chunk frame : List ℕ) : Type 0 where
  pub none : line ≡ kept []
  pub reading : Reading from size chunk frame
  pub more : from + 2 * size < length chunk
  pub feed : get_or chunk (from + 2 * size) 0 ≡ 10

-- where a search from `from` of a chunk of that length stopped, with a frame's buffer of that length: past where it began
pub record FoundAt (from size most : ℕ) (r : Ended) : Type 0 where
  pub within : r.at ≤ size
  pub fits : r.size ≤ most
  pub onward : from < r.at

abbrev pub Found : (from size most : ℕ) → Option Ended → Type 0
Found from size most (Some r) = FoundAt from size most r
Found from size most None = Unit {0}

-- a line that ended: which it is, that its frame is read, and that no characters of the next came yet
pub record EndedIn (longest from : ℕ) (chunk : List ℕ) (line line' : LineSoFar) (frame' : List ℕ) (r : Ended) : Type 0 where
  pub whole : LineSoFar
  pub met : line_ended whole (drop r.at chunk) ≡ scan longest line (drop from chunk)
  pub frame : take r.size frame' ≡ frame_of_line whole
  pub none : line' ≡ kept []

-- what was found of a line in a chunk from `from` on, in the line and the frame's buffer that are left: one that ended, or what is
-- kept of it at the chunk's end
abbrev pub FoundIn : (longest from : ℕ) (chunk : List ℕ) (line line' : LineSoFar) (frame' : List ℕ) → Option Ended → Type 0
FoundIn longest from chunk line line' frame' (Some r) = EndedIn longest from chunk line line' frame' r
FoundIn longest from chunk line line' frame' None =
    partly line' ≡ scan longest line (drop from chunk)
