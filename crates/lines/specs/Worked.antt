-- Examples of lines, worked out by hand from document 01's "one frame a line (either case, at most 1,028 digits, LF; a last line may lack
-- it if not empty). A faulty or over-long line counts as an empty frame."
-- Assumes nothing.
use Rattle.std.specs.Prelude.{◌≡◌, List, [], ◌∷◌, ◌++◌, ℕ}
use Prim.Native.Char.{code}
use Prim.Native.String.{String, [] as no_text, ◌∷◌ as ◌then◌}
use Rattle.lines.specs.Hex.{hex_of, decimal_of}
use Rattle.lines.specs.Frames.{frames_of}

-- the characters of a text
abbrev pub chars : String → List ℕ
chars no_text = []
chars (c then cs) = code c ∷ chars cs

-- a text as a line, with its LF in front of what follows
infixr 60 ◌lf◌
abbrev pub ◌lf◌ : String → List ℕ → List ℕ
line lf rest = chars line ++ (10 ∷ rest)

pub record Worked : Type 0 where
  -- the characters on both sides of each run of digits: '/' and ':', '@' and 'G', '`' and 'g'
  pub digits : frames_of 20 ("0123456789" lf "ABCDEF" lf "abcdef" lf "0/" lf "0:" lf "@0" lf "G0" lf "`0" lf "0g" lf [])
      ≡ (0x01 ∷ 0x23 ∷ 0x45 ∷ 0x67 ∷ 0x89 ∷ []) ∷ (0xAB ∷ 0xCD ∷ 0xEF ∷ []) ∷ (0xAB ∷ 0xCD ∷ 0xEF ∷ []) ∷ [] ∷ [] ∷ [] ∷ [] ∷ [] ∷ [] ∷ []
  -- a line may be empty, a last one without an LF may not; a CR is no digit
  pub ends : frames_of 20 ("060A" lf "" lf "5a07" lf [])
      ≡ (0x06 ∷ 0x0A ∷ []) ∷ [] ∷ (0x5A ∷ 0x07 ∷ []) ∷ []
  pub last : frames_of 20 ("060A" lf chars "5a07") ≡ (0x06 ∷ 0x0A ∷ []) ∷ (0x5A ∷ 0x07 ∷ []) ∷ []
  pub last_odd : frames_of 20 ("060A" lf chars "5") ≡ (0x06 ∷ 0x0A ∷ []) ∷ [] ∷ []
  pub returns : frames_of 20 (chars "060A" ++ (13 ∷ 10 ∷ [])) ≡ [] ∷ []
  pub none : frames_of 20 [] ≡ []
  -- four characters at most: five and six are too many, the line after them counts
  pub longest : frames_of 4 ("0102" lf "01020" lf "010203" lf "01" lf []) ≡ (0x01 ∷ 0x02 ∷ []) ∷ [] ∷ [] ∷ (0x01 ∷ []) ∷ []
  -- digits are written in capitals, two to a byte; decimals without a leading zero
  pub written : hex_of (0x00 ∷ 0x9A ∷ 0x0F ∷ 0xFF ∷ []) ≡ chars "009A0FFF"
  pub decimals : decimal_of 0 ++ decimal_of 9 ++ decimal_of 10 ++ decimal_of 23 ≡ chars "091023"
