-- What a call asks of the controller's lent bytes: reply 10 where they are too few, or do not begin with its mark.
-- Assumes nothing.
use Rattle.std.specs.Prelude.{Bool, List, ℕ, ◌≤◌, length}
use Rattle.lent.specs.Fitting.{fitting, Fitting}
use Rattle.state.specs.Layout.{controller_mark, state_bytes}

-- as many bytes as the controller needs
abbrev pub Whole : List ℕ → Type 0
Whole s = state_bytes ≤ length s

-- lent bytes that a call takes
abbrev pub fit : List ℕ → Bool
fit = fitting state_bytes controller_mark

-- the same as facts
abbrev pub Fit : List ℕ → Type 0
Fit = Fitting state_bytes controller_mark
