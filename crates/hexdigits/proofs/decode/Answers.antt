-- `hexdigits::decode` meets its contract. The invariant: the bytes written, put in front of what the rest of the text says, are what the text says.
-- Assumes nothing.
use Prim.Native.Nat.{◌/◌}
use mathlib.Core.Path.{◌≡◌, sym, ap, ◌∙◌}
use native.Mathlib.Omega.{arith}
use lib.ListN.{length, take, length-set}
use Rattle.lines.specs.Hex.{bytes_in_front}
use Rattle.hexdigits.proofs.HexDigits.{read_step, read_no_pair, read_ends}
use Rattle.hexdigits.proofs.decode.Goals as goal

pub returns-in_err-out-clause-out_after : goal.returns-in_err-out-clause-out_after
returns-in_err-out-clause-out_after c =
    let l = c.loop-n in
    rw c.from_residual.ensures (sym (ap (bytes_in_front (take l.n l.out)) (read_no_pair c.args.s.now l.n (omega arith) c.in_err-out.ensures)) ∙ l.invariant.1)

pub loop-n-preserved : goal.loop-n-preserved
loop-n-preserved c =
    let l = c.loop-n in
    (simp length-set l.invariant.0, read_step c.args.s.now l.out l.n _ (omega arith) (omega arith) c.in_ok-out.ensures ∙ l.invariant.1)

pub returns : goal.returns
returns c =
    let l = c.loop-n in
    let size : l.n ≡ length c.args.s.now / 2 = omega arith in
    let r = read_ends c.args.s.now l.out l.n c.then_some.result size (rw size c.then_some.ensures) (omega arith) in
    record { result_in_bounds = omega (arith, r.0, l.auto.out); out_after = r.1 ∙ l.invariant.1 }
