-- The loop of `wire::copy_to`: the first i bytes are copied.
use Rattle.std.proofs.Common.{◌≡◌}
use lib.Seq.{paste}
use Rattle.wire.proofs.copy_to.Given as goal

abbrev pub invariant-loop-i : goal.invariant-loop-i
invariant-loop-i l = l.d ≡ paste l.initial.d l.at l.s l.i
