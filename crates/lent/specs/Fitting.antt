-- Lent bytes that a machine's calls take: as many as it needs, and its mark in front, which starting writes. Each machine has its own,
-- so that bytes that were never started, or that the other machine's calls made, are refused.
-- Assumes nothing.
use Rattle.std.specs.Prelude.{◌≡◌, Bool, ◌&&◌, List, ℕ, ◌≤◌, eqb, leb, length, replicate}
use Rattle.wire.specs.Wire.{be16, bytes16, put}

abbrev pub mark_at : ℕ
mark_at = 0

unfoldable pub fitting : ℕ → ℕ → List ℕ → Bool
fitting bytes mark s = leb bytes (length s) && eqb (be16 s mark_at) mark

-- the same as facts
pub record Fitting (bytes sign : ℕ) (s : List ℕ) : Type 0 where
  pub whole : bytes ≤ length s
  pub mark : be16 s mark_at ≡ sign

-- "all numbers 0", the mark in front, "later bytes staying"
unfoldable pub blank_on : ℕ → ℕ → List ℕ → List ℕ
blank_on bytes mark s = put (put s 0 (replicate bytes 0)) mark_at (bytes16 mark)
