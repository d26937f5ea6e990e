-- `hexblock::block` meets its contract. The invariant: the bytes so far, in front of what the rest of the text stands for, are what all of it
-- stands for. Assumes nothing.
use mathlib.Core.Path.{◌∙◌}
use native.Mathlib.Omega.{arith}
use lib.ListN.{length-set}
use Rattle.hexblock.proofs.Blocks.{block_step, block_end}
use Rattle.hexblock.proofs.block.Goals as goal

pub loop-n-preserved : goal.loop-n-preserved
loop-n-preserved c =
    let l = c.loop-n in
    (simp length-set l.invariant.0, block_step c.args.s.now c.in_ok-v.v l.out l.n (omega arith) (omega arith) l.invariant.0 c.in_ok-v.ensures ∙ l.invariant.1)

pub returns : goal.returns
returns c =
    let l = c.loop-n in
    block_end c.args.s.now l.out l.n (omega arith) (omega arith) l.invariant.0 l.invariant.1
