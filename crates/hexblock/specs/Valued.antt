-- The values of a block's characters.
-- Assumes nothing.
use Rattle.std.specs.Prelude.{ℕ, ◌<◌, ◌≡◌, List, get_or}
use Rattle.lines.specs.Hex.{value_of}

-- the first k of v are the values of the characters of s, and each is a digit's
pub record Valued (k : ℕ) (s v : List ℕ) : Type 0 where
  pub each : (j : ℕ) → j < k → get_or v j 0 ≡ value_of (get_or s j 0)
  pub digits : (j : ℕ) → j < k → get_or v j 0 < 16
