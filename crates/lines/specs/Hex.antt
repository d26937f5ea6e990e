-- Hexadecimal text: what a character stands for, the bytes that a text stands for, and the text of bytes in capitals; and
-- small numbers in decimal.
-- Assumes nothing.
use Rattle.std.specs.Prelude.{ℕ, ◌+◌, ◌-◌, ◌*◌, ◌/◌, ◌%◌, cond, ◌&&◌, List, [], ◌∷◌, ◌++◌, leb, ltb}

-- the value of a digit: '0' to '9', 'A' to 'F', 'a' to 'f'; 16 for any other character
abbrev pub value_of : ℕ → ℕ
value_of c =
    cond (leb 48 c && leb c 57) (c - 48) (cond (leb 65 c && leb c 70) (c - 55) (cond (leb 97 c && leb c 102) (c - 87) 16))

-- what a text can stand for: bytes, or nothing
pub data Read : Type 0 where
  bytes : List ℕ → Read
  faulty_text : Read

-- x in front of what the rest of a text stands for
abbrev pub front : ℕ → Read → Read
front x (bytes xs) = bytes (x ∷ xs)
front x faulty_text = faulty_text

-- xs in front of what the rest of a text stands for
abbrev pub bytes_in_front : List ℕ → Read → Read
bytes_in_front xs (bytes ys) = bytes (xs ++ ys)
bytes_in_front xs faulty_text = faulty_text

-- two digits of the values h and l, and then what r says; a value of 16 is no digit
abbrev pub pair : ℕ → ℕ → Read → Read
pair h l r = cond (ltb h 16) (cond (ltb l 16) (front (h * 16 + l) r) faulty_text) faulty_text

-- the bytes of a text, two digits to a byte, the high one first; faulty for an odd count or a character that is no digit
unfoldable pub read_hex : List ℕ → Read
read_hex [] = bytes []
read_hex (a ∷ []) = faulty_text
read_hex (a ∷ b ∷ rest) = pair (value_of a) (value_of b) (read_hex rest)

-- the capital digit of a value below 16
abbrev pub digit_of : ℕ → ℕ
digit_of d = cond (ltb d 10) (48 + d) (55 + d)

-- the text of bytes, two capital digits to a byte
unfoldable pub hex_of : List ℕ → List ℕ
hex_of [] = []
hex_of (x ∷ xs) = digit_of (x / 16) ∷ digit_of (x % 16) ∷ hex_of xs

-- a number below 100 in decimal, without a leading zero
abbrev pub decimal_of : ℕ → List ℕ
decimal_of v = cond (ltb v 10) ((48 + v) ∷ []) ((48 + v / 10) ∷ (48 + v % 10) ∷ [])
