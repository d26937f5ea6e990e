-- What an open line's methods answer, in the words of `lines`.
-- Assumes nothing.
use Rattle.std.specs.Prelude.{ℕ, ◌+◌, List, [], ◌∷◌, length, drop, Option, Some, None}
use Rattle.lines.specs.Lines.{LineSoFar, kept, over, more, Scan, line_ended, partly}

-- how many characters a line so far has, and one more than the longest line where there are too many
abbrev pub count_of : (longest : ℕ) → LineSoFar → ℕ
count_of longest (kept l) = length l
count_of longest over = longest + 1

-- many characters more
abbrev pub more_by : (longest : ℕ) → LineSoFar → List ℕ → LineSoFar
more_by longest l [] = l
more_by longest l (c ∷ s) = more_by longest (more longest l c) s

-- what a scan of a chunk came to: the line, and the index past the LF that ended it, or none where it is still open
abbrev pub scanned : Option ℕ → LineSoFar → List ℕ → Scan
scanned (Some at) l chunk = line_ended l (drop at chunk)
scanned None l chunk = partly l
