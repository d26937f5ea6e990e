-- Fresh records one at a time, and that a number which is no stream's has no pieces.
-- Assumes nothing.
use mathlib.Core.Path.{◌≡◌, refl}
use mathlib.Core.List.{List}
use Prim.Native.Nat.{ℕ, ◌+◌, ◌-◌}
use native.Mathlib.Numerals.{add-one}
use native.Mathlib.Omega.{arith}
use mathlib.Core.Bool.{false}
use borrow.Author.Tests.{ltb-false}
use Rattle.paper.specs.Streams.{pieces, carried}
use Rattle.shelf.specs.Received.{recorded_on}
use Rattle.shelf.specs.Fresh.{fresh_on}

-- no record yet
pub fresh_none : (s : List ℕ) → fresh_on s 0 ≡ s
unfolding fresh_on
fresh_none s = refl

-- one record more
pub fresh_more : (s : List ℕ) (t : ℕ) → fresh_on s (t + 1) ≡ recorded_on (fresh_on s t) t 4095 (pieces t - 1) 0
unfolding fresh_on
fresh_more s t = rw (add-one t)

-- a number that is no stream's has no pieces
pub no_pieces : (n : ℕ) → carried n ≡ false → pieces n ≡ 0
no_pieces n e = omega (arith, ltb-false 0 (pieces n) e)
