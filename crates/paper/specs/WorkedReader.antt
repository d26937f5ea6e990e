-- Worked examples of document 01, "Reader": packets that arrive at a fresh reader, and what it replies and hands out. A packet is written as
-- its count's word (count times 16 plus stream) and its 118 bytes; the six bytes before them are 0F94 C000 0077 where nothing is said.
-- Assumes nothing.
use Rattle.std.specs.Prelude.{List, [], ◌∷◌, ◌++◌, ℕ, replicate}
use Prim.Native.String.{String}
use Rattle.paper.specs.WorkedLines.{Line, line, hex, upward, ◌gets◌, ◌lent◌}

-- a packet with what stands before its 118 bytes; one that gets a reply; one with which a datastream packet is handed out
infix 80 ◌with◌replies◌
abbrev ◌with◌replies◌ : String → List ℕ → ℕ → Line
head with body replies n = line (hex head ++ body) n []

infix 80 ◌brings◌replies◌
abbrev ◌brings◌replies◌ : String → List ℕ → ℕ → Line
tag brings body replies n = line (hex "0F94 C000 0077" ++ hex tag ++ body) n []

infix 80 ◌brings◌hands◌
abbrev ◌brings◌hands◌ : String → List ℕ → List ℕ → Line
tag brings body hands packet = line (hex "0F94 C000 0077" ++ hex tag ++ body) 1 packet

-- ---- streams of one piece

-- an API-V packet of 116 bytes, and its piece; a housekeeping packet of 118 is its piece
abbrev api_v_packet : List ℕ
api_v_packet = hex "8888" ++ upward 1 112 ++ hex "9999"

abbrev api_v_piece : List ℕ
api_v_piece = api_v_packet ++ hex "9999"

abbrev hk_packet : List ℕ
hk_packet = hex "8888" ++ upward 1 114 ++ hex "9999"

-- Handed out once, at its listed length; then a repeat, on the other channel too. "finished but opening, closing or fill bytes are wrong",
-- one byte each; the record has moved on, so the same count is then a repeat, and the next is handed out.
abbrev pub one_piece : List Line
one_piece =
    "0004" brings api_v_piece hands api_v_packet
    ∷ "0004" brings api_v_piece replies 22
    ∷ "0FB4 FFFF 0077 0004" with api_v_piece replies 22
    -- opening
    ∷ "0014" brings (hex "8788" ++ upward 1 112 ++ hex "9999 9999") replies 23
    ∷ "0014" brings api_v_piece replies 22
    ∷ "0024" brings api_v_piece hands api_v_packet
    ∷ "0034" brings (hex "8889" ++ upward 1 112 ++ hex "9999 9999") replies 23
    -- closing
    ∷ "0044" brings (hex "8888" ++ upward 1 112 ++ hex "9899 9999") replies 23
    ∷ "0054" brings (hex "8888" ++ upward 1 112 ++ hex "9998 9999") replies 23
    -- fill
    ∷ "0064" brings (hex "8888" ++ upward 1 112 ++ hex "9999 9899") replies 23
    ∷ "0074" brings (hex "8888" ++ upward 1 112 ++ hex "9999 999A") replies 23
    ∷ "0074" brings api_v_piece replies 22
    -- time, mode and data are not judged
    ∷ "0084" brings (hex "8888" ++ replicate 112 0x99 ++ hex "9999 9999") hands (hex "8888" ++ replicate 112 0x99 ++ hex "9999")
    -- pieces 9 to 11 are missing
    ∷ "00C4" brings api_v_piece hands api_v_packet
    -- housekeeping has no fill, and a record of its own
    ∷ "000A" brings hk_packet hands hk_packet
    ∷ "001A" brings (hex "8888" ++ upward 1 114 ++ hex "9998") replies 23
    ∷ "002A" brings (hex "8888" ++ upward 1 114 ++ hex "9899") replies 23
    ∷ "003A" brings hk_packet hands hk_packet
    ∷ "00D4" brings api_v_piece hands api_v_packet
    ∷ []

-- "A fresh record has last count 4095": a first count of 4095 is a repeat; 4094 is not; 0 follows 4095
abbrev pub first_counts : List Line
first_counts =
    "FFF2" brings api_v_piece replies 22
    ∷ "FFF4" brings api_v_piece replies 22
    ∷ "FFFA" brings hk_packet replies 22
    ∷ "FFFB" brings api_v_piece replies 22
    ∷ "FFE4" brings api_v_piece hands api_v_packet
    ∷ "FFF4" brings api_v_piece hands api_v_packet
    ∷ "0004" brings api_v_piece hands api_v_packet
    ∷ "0005" brings api_v_piece hands api_v_packet
    ∷ "0016" brings api_v_piece hands api_v_packet
    ∷ "0FF9" brings api_v_piece hands api_v_packet
    ∷ []

-- ---- "20 not 126 bytes, or a wrong ID, length or top two sequence bits; 21 stream not carried"; "24 output under 776"

-- 20 before 21; 24 before 20, 21 and 22, and nothing is changed by them
abbrev pub refusals : List Line
refusals =
    "" gets 20
    ∷ "0F94 C000 0077 0004" gets 20
    ∷ "0004" brings (api_v_packet ++ hex "99") replies 20
    ∷ "0004" brings (api_v_piece ++ hex "99") replies 20
    ∷ "0F95 C000 0077 0004" with api_v_piece replies 20
    ∷ "0F84 C000 0077 0004" with api_v_piece replies 20
    ∷ "0FB5 C000 0077 0004" with api_v_piece replies 20
    ∷ "1F94 C000 0077 0004" with api_v_piece replies 20
    ∷ "0F94 C000 0076 0004" with api_v_piece replies 20
    ∷ "0F94 C000 0078 0004" with api_v_piece replies 20
    ∷ "0F94 C000 0177 0004" with api_v_piece replies 20
    ∷ "0F94 8000 0077 0004" with api_v_piece replies 20
    ∷ "0F94 7FFF 0077 0004" with api_v_piece replies 20
    ∷ "0F94 0000 0077 0000" with api_v_piece replies 20
    ∷ "0000" brings api_v_piece replies 21
    ∷ "0001" brings api_v_piece replies 21
    ∷ "0003" brings api_v_piece replies 21
    ∷ "0007" brings api_v_piece replies 21
    ∷ "0008" brings api_v_piece replies 21
    ∷ "000C" brings api_v_piece replies 21
    ∷ "000D" brings api_v_piece replies 21
    ∷ "000E" brings api_v_piece replies 21
    ∷ "FFFF" brings api_v_piece replies 21
    ∷ "" gets 24 lent 775
    ∷ "" gets 20 lent 776
    ∷ "0F95 C000 0077 0004" with api_v_piece replies 24 lent 775
    ∷ "0000" brings api_v_piece replies 24 lent 775
    ∷ "0004" brings api_v_piece replies 24 lent 775
    ∷ "0FB4 FFFF 0077 0014" with api_v_piece replies 24 lent 0
    ∷ "0004" brings api_v_piece hands api_v_packet lent 776
    ∷ "0004" brings api_v_piece replies 24 lent 775
    ∷ "0004" brings api_v_piece replies 22
    ∷ []

-- ---- streams of more pieces

-- an ACC-E packet of 520 bytes in five pieces whose data open with 88 88 too; the last has 70 bytes of fill
abbrev p0 : List ℕ
p0 = hex "8888" ++ replicate 116 0x10

abbrev p1 : List ℕ
p1 = hex "8888" ++ replicate 116 0x11

abbrev p2 : List ℕ
p2 = hex "8888" ++ replicate 116 0x12

abbrev p3 : List ℕ
p3 = hex "8888" ++ replicate 116 0x13

abbrev p4 : List ℕ
p4 = replicate 46 0x14 ++ hex "9999" ++ replicate 70 0x99

abbrev acc_e_packet : List ℕ
acc_e_packet = p0 ++ p1 ++ p2 ++ p3 ++ (replicate 46 0x14 ++ hex "9999")

-- Whole, with another stream's packets between; whole with repeats; with piece 2 missing; with pieces 2 to 6 missing, after which the place
-- fits; a piece that comes once more, but not as the next arrival: nothing is handed out.
abbrev pub five_pieces : List Line
five_pieces =
    "000B" brings p0 replies 0
    ∷ "001B" brings p1 replies 0
    ∷ "0004" brings api_v_piece hands api_v_packet
    ∷ "002B" brings p2 replies 0
    ∷ "0024" brings api_v_piece hands api_v_packet
    ∷ "003B" brings p3 replies 0
    ∷ "004B" brings p4 hands acc_e_packet
    ∷ "004B" brings p4 replies 22
    -- 5 to 9, with repeats
    ∷ "005B" brings p0 replies 0
    ∷ "005B" brings p0 replies 22
    ∷ "006B" brings p1 replies 0
    ∷ "0FB4 C123 0077 006B" with p1 replies 22
    ∷ "007B" brings p2 replies 0
    ∷ "008B" brings p3 replies 0
    ∷ "008B" brings p3 replies 22
    ∷ "009B" brings p4 hands acc_e_packet
    -- 10 to 14, without 12
    ∷ "00AB" brings p0 replies 0
    ∷ "00BB" brings p1 replies 0
    ∷ "00DB" brings p3 replies 0
    ∷ "00EB" brings p4 replies 0
    -- 15, 16, 22, 23, 24
    ∷ "00FB" brings p0 replies 0
    ∷ "010B" brings p1 replies 0
    ∷ "016B" brings p2 replies 0
    ∷ "017B" brings p3 replies 0
    ∷ "018B" brings p4 replies 0
    -- 25 to 29
    ∷ "019B" brings p0 replies 0
    ∷ "01AB" brings p1 replies 0
    ∷ "01BB" brings p2 replies 0
    ∷ "01CB" brings p3 replies 0
    ∷ "01DB" brings p4 hands acc_e_packet
    -- 30, 31, 32, 31, 33, 34
    ∷ "01EB" brings p0 replies 0
    ∷ "01FB" brings p1 replies 0
    ∷ "020B" brings p2 replies 0
    ∷ "01FB" brings p1 replies 0
    ∷ "021B" brings p3 replies 0
    ∷ "022B" brings p4 replies 0
    ∷ []

-- five pieces, all taken, with which a packet finishes that is not right; then five that are
abbrev finishing : (a b c d e : String) → List ℕ → List ℕ → List Line
finishing a b c d e first last =
    a brings first replies 0
    ∷ b brings p1 replies 0
    ∷ c brings p2 replies 0
    ∷ d brings p3 replies 0
    ∷ e brings last replies 23
    ∷ e brings p4 replies 22
    ∷ []

-- opening, closing and fill of a packet of five pieces: the first and the last byte of each
abbrev pub five_wrong : List Line
five_wrong =
    finishing "000B" "001B" "002B" "003B" "004B" (hex "8788" ++ replicate 116 0x10) p4
    ++ finishing "005B" "006B" "007B" "008B" "009B" (hex "8887" ++ replicate 116 0x10) p4
    ++ finishing "00AB" "00BB" "00CB" "00DB" "00EB" p0 (replicate 46 0x14 ++ hex "9099" ++ replicate 70 0x99)
    ++ finishing "00FB" "010B" "011B" "012B" "013B" p0 (replicate 46 0x14 ++ hex "9990" ++ replicate 70 0x99)
    ++ finishing "014B" "015B" "016B" "017B" "018B" p0 (replicate 46 0x14 ++ hex "9999 90" ++ replicate 69 0x99)
    ++ finishing "019B" "01AB" "01BB" "01CB" "01DB" p0 (replicate 46 0x14 ++ hex "9999" ++ replicate 69 0x99 ++ hex "90")
    ++ "01EB" brings p0 replies 0
    ∷ "01FB" brings p1 replies 0
    ∷ "020B" brings p2 replies 0
    ∷ "021B" brings p3 replies 0
    ∷ "022B" brings p4 hands acc_e_packet
    ∷ []

-- ACC-I: 776 bytes in seven pieces, 50 bytes of fill
abbrev pub seven_pieces : List Line
seven_pieces =
    "0002" brings p0 replies 0
    ∷ "0012" brings p1 replies 0
    ∷ "0022" brings p2 replies 0
    ∷ "0032" brings p3 replies 0
    ∷ "0042" brings p1 replies 0
    ∷ "0052" brings p2 replies 0
    ∷ "0062" brings (replicate 66 0x55 ++ hex "9999" ++ replicate 50 0x99)
    hands (p0 ++ p1 ++ p2 ++ p3 ++ p1 ++ p2 ++ replicate 66 0x55 ++ hex "9999")
    ∷ []
