-- `hexrun::pairs` meets its contract. The invariant is what it promises of the bytes so far.
-- Assumes nothing.
use mathlib.Core.Path.{◌≡◌}
use lib.ListN.{length}
use Rattle.hexrun.specs.Reading.{Reading}
use Rattle.hexrun.proofs.pairs.Given as goal

abbrev pub invariant-loop-n : goal.invariant-loop-n
invariant-loop-n l =
    (Reading l.from l.n l.chunk l.frame) × (length l.frame ≡ length l.initial.frame)
