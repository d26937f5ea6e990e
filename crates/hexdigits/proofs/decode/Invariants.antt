-- `hexdigits::decode` meets its contract. The invariant: the bytes written, put in front of what the rest of the text says, are what the text says.
-- Assumes nothing.
use Prim.Native.Nat.{◌*◌}
use mathlib.Core.Path.{◌≡◌}
use lib.ListN.{length, take, drop}
use Rattle.lines.specs.Hex.{bytes_in_front, read_hex}
use Rattle.hexdigits.proofs.decode.Given as goal

abbrev pub invariant-loop-n : goal.invariant-loop-n
invariant-loop-n l =
    (length l.out ≡ length l.initial.out) × (bytes_in_front (take l.n l.out) (read_hex (drop (2 * l.n) l.s)) ≡ read_hex l.s)
