-- `hexdigits::encode` meets its contract. The invariant: what is written, with the text of the bytes that are left, is the whole text.
-- Assumes nothing.
use mathlib.Core.Path.{◌≡◌, sym, ap, ◌∙◌}
use Prim.Native.Nat.{ℕ, ◌*◌}
use native.Mathlib.Omega.{arith}
use lib.ListN.{length, take}
use Rattle.hexdigits.proofs.HexDigits.{hex-step, hex-end}
use Rattle.hexdigits.proofs.encode.Goals as goal

pub loop-n-preserved : goal.loop-n-preserved
loop-n-preserved c =
    let l = c.loop-n in
    hex-step c.args.s.now l.out l.n _ _ (omega arith) (omega arith) c.digit.ensures c.digit-in-loop-n.ensures ∙ l.invariant

pub returns : goal.returns
returns c =
    let l = c.loop-n in
    let e : l.n ≡ length c.args.s.now = omega arith in
    ap (λ (k : ℕ). take (2 * k) l.out) (sym e) ∙ sym (hex-end c.args.s.now (take (2 * l.n) l.out) l.n (omega arith)) ∙ l.invariant
