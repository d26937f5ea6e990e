-- `shelving::fresh_records` meets its contract: at the loop's head, the records of the streams below are fresh.
-- Assumes nothing.
use mathlib.Core.Path.{◌≡◌}
use Rattle.shelf.specs.Fresh.{fresh_on}
use Rattle.shelving.proofs.fresh_records.Given as goal

abbrev pub invariant-loop-stream : goal.invariant-loop-stream
invariant-loop-stream l =
    l.s ≡ fresh_on l.initial.s l.stream
