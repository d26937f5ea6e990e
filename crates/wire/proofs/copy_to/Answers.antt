-- `wire::copy_to` meets its contract. Assumes nothing.
use Rattle.std.proofs.Common.{◌≡◌, ◌∙◌, length, add-one, arith}
use lib.Seq.{paste-zero, paste-suc, take-length}
use Rattle.wire.proofs.copy_to.Goals as goal

pub loop-i-init : goal.loop-i-init
loop-i-init c = paste-zero c.args.d.now c.args.at c.args.s.now

pub loop-i-preserved : goal.loop-i-preserved
loop-i-preserved c =
    let a = c.args in
    let l = c.loop-i in
    rw (l.invariant, add-one) (paste-suc a.d.now a.at a.s.now l.i 0 (omega arith) (omega arith))

pub returns : goal.returns
returns c =
    let l = c.loop-i in
    let e : l.i ≡ length c.args.s.now = omega (arith, l.auto.i-end, c.loop-i-test.false) in
    l.invariant ∙ rw (e, take-length)
