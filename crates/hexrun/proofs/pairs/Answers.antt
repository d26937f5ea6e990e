-- `hexrun::pairs` meets its contract. The invariant is what it promises of the bytes so far. Assumes nothing.
use native.Mathlib.Omega.{arith}
use lib.ListN.{length-set}
use Rattle.hexrun.proofs.Runs.{reading-pair}
use Rattle.hexrun.proofs.pairs.Goals as goal

pub loop-n-preserved : goal.loop-n-preserved
loop-n-preserved c =
    (reading-pair c.args.from c.loop-n.n _ c.args.chunk.now c.loop-n.frame c.loop-n.invariant.0 (omega arith) (omega arith) c.in-Some.ensures, simp length-set c.loop-n.invariant.1)
