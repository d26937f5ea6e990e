-- `hexblock::block` meets its contract. The invariant: the bytes so far, in front of what the rest of the text stands for, are what all of it
-- stands for. Assumes nothing.
use Prim.Native.Nat.{◌*◌}
use mathlib.Core.Path.{◌≡◌}
use lib.ListN.{length, take, drop}
use Rattle.lines.specs.Hex.{bytes_in_front, read_hex}
use Rattle.hexblock.proofs.block.Given as goal

abbrev pub invariant-loop-n : goal.invariant-loop-n
invariant-loop-n l =
    (length l.out ≡ 16) × (bytes_in_front (take l.n l.out) (read_hex (drop (2 * l.n) l.s)) ≡ read_hex l.s)
