-- `Nibble::from` a byte meets its contract: the halves of four bits are put together again.
-- Assumes nothing.
use mathlib.Core.Path.{◌≡◌, refl}
use Prim.Native.Nat.{◌%◌}
use native.Mathlib.Omega.{arith}
use Rattle.modes.proofs.Numbers.{nibble_back}
use Rattle.modes.proofs.NibbleFromU8.from.Goals as goal

pub returns : goal.returns
returns c =
    let n = c.args.byte in
    let low : n % 8 ≡ n % 16 % 8 = omega arith in
    (rw (c.of.ensures, low) (nibble_back (n % 16) (omega arith)), c.of.ensures, refl)
