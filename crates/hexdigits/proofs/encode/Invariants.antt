-- `hexdigits::encode` meets its contract. The invariant: what is written, with the text of the bytes that are left, is the whole text.
-- Assumes nothing.
use Prim.Native.Nat.{◌*◌}
use mathlib.Core.Path.{◌≡◌}
use mathlib.Core.List.{◌++◌}
use lib.ListN.{take, drop}
use Rattle.lines.specs.Hex.{hex_of}
use Rattle.hexdigits.proofs.encode.Given as goal

abbrev pub invariant-loop-n : goal.invariant-loop-n
invariant-loop-n l = take (2 * l.n) l.out ++ hex_of (drop l.n l.s) ≡ hex_of l.s
