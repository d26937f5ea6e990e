-- `hexrun::blocks` meets its contract. The invariant is what it promises of the bytes so far; the measure is the room left. Assumes nothing.
use mathlib.Core.Path.{◌∙◌}
use Prim.Native.Nat.{◌+◌, ◌-◌}
use native.Mathlib.Omega.{arith}
use borrow.Rule.Slice.PartMut.{same_len_mid, mid_len}
use Rattle.hexrun.proofs.Runs.{reading_block}
use Rattle.hexrun.proofs.blocks.Goals as goal

pub loop-n-preserved : goal.loop-n-preserved
loop-n-preserved c =
    let l = c.loop-n in
    let s = c.copy_from_slice in
    let e = s.ensures.after in
    let len = s.ensures.len ∙ mid_len l.n (l.n + 16) l.frame (omega arith) in
    (reading_block c.args.from l.n c.args.chunk.now l.frame c.in-Some.text.now s.new.self _ l.invariant.0 c.in-Some.ensures.cases (omega arith) (omega arith) (rw e c.in-Some-block.ensures), same_len_mid l.n (l.n + 16 - l.n) l.frame s.new.self s.ensures.len ∙ l.invariant.1)
