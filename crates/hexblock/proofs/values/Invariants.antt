-- `hexblock::values` meets its contract. The invariant: the values so far are right, and none is above the worst. Assumes nothing.
use Prim.Native.Nat.{ℕ, ◌≤◌, ◌<◌}
use mathlib.Core.Path.{◌≡◌}
use lib.ListN.{length, get_or}
use Rattle.lines.specs.Hex.{value_of}
use Rattle.hexblock.proofs.values.Given as goal

abbrev pub invariant-loop-j : goal.invariant-loop-j
invariant-loop-j l =
    (length l.v ≡ 32)
    × ((i : ℕ) → i < l.j → get_or l.v i 0 ≡ value_of (get_or l.s i 0))
    × ((i : ℕ) → i < l.j → get_or l.v i 0 ≤ l.worst)
