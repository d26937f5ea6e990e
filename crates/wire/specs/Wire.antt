-- Numbers and runs of bytes at an offset of a list of bytes. Assumes nothing.
use Rattle.std.specs.Prelude.{ℕ, ◌+◌, ◌*◌, ◌/◌, ◌%◌, ◌<◌, List, [], ◌∷◌, ◌++◌, length, take, drop, slice_index}

-- A list is of bytes: its numbers are below 256. A slice of Rattle, as a buffer of C, holds nothing else, so no caller has to see to
-- it; it is said because definitions speak of lists of any numbers.
abbrev pub Bytes : List ℕ → Type 0
Bytes s = (i : ℕ) → slice_index s i < 256

-- the number that two bytes at an offset are, the higher first
abbrev pub be16 : List ℕ → ℕ → ℕ
be16 s at = slice_index s at * 256 + slice_index s (at + 1)

-- the number that three bytes at an offset are, the highest first
abbrev pub be24 : List ℕ → ℕ → ℕ
be24 s at = slice_index s at * 65536 + slice_index s (at + 1) * 256 + slice_index s (at + 2)

-- the two bytes of a number below 65536, the higher first
abbrev pub bytes16 : ℕ → List ℕ
bytes16 v = v / 256 ∷ v % 256 ∷ []

-- the three bytes of a number below 16777216, the highest first
abbrev pub bytes24 : ℕ → List ℕ
bytes24 v = v / 65536 ∷ v / 256 % 256 ∷ v % 256 ∷ []

-- k bytes from an offset
abbrev pub part : List ℕ → ℕ → ℕ → List ℕ
part s at k = take k (drop at s)

-- a list with a run of bytes stored at an offset
abbrev pub put : List ℕ → ℕ → List ℕ → List ℕ
put d at v = take at d ++ v ++ drop (at + length v) d

-- a number of 16 bits at an offset goes up by one, from 65535 to 0
unfoldable pub raised_on : List ℕ → ℕ → List ℕ
raised_on s at = put s at (bytes16 ((be16 s at + 1) % 65536))
