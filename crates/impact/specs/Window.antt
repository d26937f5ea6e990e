-- The impact window in a byte: the last five comparisons are its five lowest bits, the newest lowest.
-- Assumes nothing.
use Rattle.std.specs.Prelude.{Bool, List, [], ◌∷◌, ℕ, ◌+◌, ◌*◌, ◌%◌}
use Rattle.paper.specs.Status.{bit, bit_of}

-- the comparisons that a number's five lowest bits are, newest first
abbrev pub window_of : ℕ → List Bool
window_of w = bit_of w 0 ∷ bit_of w 1 ∷ bit_of w 2 ∷ bit_of w 3 ∷ bit_of w 4 ∷ []

-- the byte with a comparison more: the oldest of five falls out
abbrev pub window_after : ℕ → Bool → ℕ
window_after w above = (w * 2 + bit above) % 32
