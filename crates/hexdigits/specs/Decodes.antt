-- What the answers of `byte` and `decode` say of a text, and of the buffer that is lent with the call.
-- Assumes nothing.
use Rattle.std.specs.Prelude.{ℕ, List, take, Option, Some, None}
use Rattle.lines.specs.Hex.{Read, bytes, faulty_text, front}

-- the byte of two characters, in front of what the rest of a text stands for
abbrev pub byte_in_front : Option ℕ → Read → Read
byte_in_front (Some b) r = front b r
byte_in_front None r = faulty_text

-- what an answer says of the buffer out
abbrev pub read_in : Option ℕ → List ℕ → Read
read_in (Some n) out = bytes (take n out)
read_in None out = faulty_text

-- how many bytes an answer counts
abbrev pub byte_count : Option ℕ → ℕ
byte_count (Some n) = n
byte_count None = 0
