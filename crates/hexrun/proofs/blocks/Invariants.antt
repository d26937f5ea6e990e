-- `hexrun::blocks` meets its contract. The invariant is what it promises of the bytes so far; the measure is the room left. Assumes nothing.
use Prim.Native.Nat.{◌-◌}
use mathlib.Core.Path.{◌≡◌}
use lib.ListN.{length}
use Rattle.hexrun.specs.Reading.{Reading}
use Rattle.hexrun.proofs.blocks.Given as goal

abbrev pub invariant-loop-n : goal.invariant-loop-n
invariant-loop-n l =
    (Reading l.from l.n l.chunk l.frame) × (length l.frame ≡ length l.initial.frame)

abbrev pub decreases-loop-n : goal.decreases-loop-n
decreases-loop-n l =
    length l.frame - l.n
