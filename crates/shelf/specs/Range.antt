-- What a call asks of the reader's lent bytes: reply 25 where they are too few, or do not begin with its mark.
-- Assumes nothing.
use Rattle.std.specs.Prelude.{Bool, List, ℕ}
use Rattle.lent.specs.Fitting.{fitting, Fitting}
use Rattle.shelf.specs.Layout.{reader_mark, reader_bytes}

-- lent bytes that a call takes
abbrev pub fit : List ℕ → Bool
fit = fitting reader_bytes reader_mark

-- the same as facts
abbrev pub Fit : List ℕ → Type 0
Fit = Fitting reader_bytes reader_mark
