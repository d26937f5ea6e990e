-- Digits read straight from a chunk.
-- Assumes nothing.
use Rattle.std.specs.Prelude.{ℕ, ◌+◌, ◌*◌, ◌≤◌, ◌≡◌, List, length, take, drop}
use Rattle.lines.specs.Hex.{bytes, read_hex}

-- n bytes are read: the 2 n characters of the chunk from `from` on are digits, and their bytes stand at the start of the frame
pub record Reading (from n : ℕ) (chunk frame : List ℕ) : Type 0 where
  pub within : from + 2 * n ≤ length chunk
  pub short : n ≤ length frame
  pub read : read_hex (take (2 * n) (drop from chunk)) ≡ bytes (take n frame)
