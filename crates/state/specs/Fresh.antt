-- Lent bytes that hold a fresh controller, "later bytes staying".
-- Assumes nothing.
use Rattle.std.specs.Prelude.{List, [], ◌∷◌, ℕ}
use Rattle.wire.specs.Wire.{put}
use Rattle.lent.specs.Fitting.{blank_on}
use Rattle.state.specs.Layout.{controller_mark, nibble_at, state_bytes}

-- "A fresh controller has mode 1, unlocked, all numbers 0."
unfoldable pub started_on : List ℕ → List ℕ
started_on s = put (blank_on state_bytes controller_mark s) nibble_at (1 ∷ [])
