-- Worked examples of document 01, "Streams and packets": open packets and their headers, packets as they are sent, clearing, counts and
-- the poll's bytes.
-- Assumes nothing.
use Rattle.std.specs.Prelude.{List, [], ◌∷◌, ◌++◌, ℕ, zero, suc, ◌+◌, replicate}
use Rattle.wire.specs.Wire.{bytes16}
use Rattle.paper.specs.WorkedLines.{Line, line, hex, upward, packed, ◌gets◌, ◌from◌shows◌, times, tick_each, polls_a, polls_b}

-- n samples of stream s, of so many bytes each, all accepted: the bytes count up from k; a tick follows each
abbrev samples_of : (s width k n : ℕ) → List Line
samples_of s width k zero = []
samples_of s width k (suc n) = line (0x04 ∷ s ∷ upward k width) 0 [] ∷ "03 0000" gets 0 ∷ samples_of s width (k + width) n

-- DEN samples: 12-bit values that count up from k
abbrev densities : (k n : ℕ) → List Line
densities k zero = []
densities k (suc n) = line (0x04 ∷ 0x05 ∷ bytes16 k) 0 [] ∷ "03 0000" gets 0 ∷ densities (suc k) n

-- ---- a packet from its first sample to its polls

-- "SSP time (3) and mode (1) at the first sample". Second 1000 (0FA000) in mode 2: first samples of API-V, PER, TIL and DEN at 5, 6, 7 and 8
-- ticks. Then second 1001, and mode 3, locked: "A mode change doesn't close an open packet." API-V and PER are 36 samples of 3 bytes, TIL
-- 18 of 6, DEN 72 of 12 bits: 108 bytes each, 116 with opening, header and closing, and two bytes of fill.
abbrev pub interleaved : List Line
interleaved =
    "01 0A 0FA0 7FFF 00 00" gets 0
    ∷ []
    ++ tick_each (0 ∷ 0 ∷ 0 ∷ 0 ∷ 0 ∷ [])
    ++ samples_of 0x04 3 0x00 1
    ++ samples_of 0x06 3 0x80 1
    ++ samples_of 0x09 6 0x10 1
    ++ densities 0x7C0 1
    ++ "01 0A 0FA4 7FFF 00 00" gets 0
    ∷ "02 0A 0032 0000 000B" gets 0
    ∷ []
    ++ samples_of 0x04 3 0x03 35
    ++ polls_a 0x4 0 0 1 (hex "8888 0FA005 02" ++ upward 0x00 108 ++ hex "9999 9999")
    ++ samples_of 0x06 3 0x83 35
    ++ polls_b 0x6 0 0 1 (hex "8888 0FA006 02" ++ upward 0x80 108 ++ hex "9999 9999")
    ++ samples_of 0x09 6 0x16 17
    ++ polls_a 0x9 1 0 1 (hex "8888 0FA007 02" ++ upward 0x10 108 ++ hex "9999 9999")
    ++ densities 0x7C1 71
    ++ polls_a 0x5 2 0 1 (hex "8888 0FA008 02" ++ packed (upward 0x7C0 72) ++ hex "9999 9999")
    -- the next API-V packet: second 1002 (0FA800), mode 3, locked
    ++ "01 0A 0FA8 7FFF 00 00" gets 0
    ∷ []
    ++ samples_of 0x04 3 0x00 36
    ++ polls_b 0x4 1 1 1 (hex "8888 0FA800 0B" ++ upward 0x00 108 ++ hex "9999 9999")
    ++ "05 0A" gets 9
    ∷ []

-- ACC-E: one sample of 512 bytes is a packet of 520, in five pieces (590, so 70 bytes of fill); "the high nibble is 1 for ACC-E": 15 in mode 5,
-- 1D locked. Pieces take counts 0 to 4, then 5 to 9; each channel has its own telemetry count.
abbrev pub acc_e_packets : List Line
acc_e_packets =
    "01 0A 0963 7FFF 00 00" gets 0
    ∷ "02 0A 0032 0000 0005" gets 0
    ∷ line (0x04 ∷ 0x0B ∷ (upward 0 256 ++ upward 0 256)) 0 []
    ∷ "03 0000" gets 0
    ∷ "02 0A 0032 0000 000D" gets 0
    ∷ line (0x04 ∷ 0x0B ∷ (replicate 256 0x88 ++ replicate 256 0x99)) 0 []
    ∷ []
    ++ polls_a 0xB 0 0 5 (hex "8888 096000 15" ++ upward 0 256 ++ upward 0 256 ++ replicate 72 0x99)
    ++ polls_b 0xB 0 5 5 (hex "8888 096001 1D" ++ replicate 256 0x88 ++ replicate 256 0x99 ++ replicate 72 0x99)
    ++ "05 0A" gets 9
    ∷ []

-- ---- room

-- "all pieces or none": with 44 packets waiting an ACC-E sample gets 7, with 43 it is taken; "A closing sample without room gets 7 and isn't
-- kept": with 48 waiting the 36th API-V sample gets 7, with 47 it is taken, and is the 36th
abbrev pub short_of_room : List Line
short_of_room =
    "02 0A 0032 0000 0005" gets 0
    ∷ []
    ++ samples_of 0x04 3 0x00 35
    ++ times 44 ("02 0A 0016 0000" gets 0 ∷ [])
    ++ line (0x04 ∷ 0x0B ∷ replicate 512 0x11) 7 []
    ∷ "05 0A" from 4 shows "0077 000A"
    ∷ line (0x04 ∷ 0x0B ∷ replicate 512 0x22) 0 []
    ∷ "04 04 AAAAAA" gets 7
    ∷ "04 04 BBBBBB" gets 7
    ∷ "05 0A" from 4 shows "0077 001A"
    ∷ line (0x04 ∷ 0x04 ∷ upward 105 3) 0 []
    ∷ "02 0A 0016 0000" gets 7
    ∷ []
    ++ times 42 ("05 0A" from 4 shows "0077" ∷ [])
    ++ polls_a 0xB 44 0 5 (hex "8888 000023 15" ++ replicate 512 0x22 ++ replicate 72 0x99)
    ++ polls_a 0x4 49 0 1 (hex "8888 000000 05" ++ upward 0x00 108 ++ hex "9999 9999")
    ++ "05 0A" gets 9
    ∷ []

-- ---- clearing

-- "Open samples and waiting pieces of named streams go, the rest keep their order": 35 API-V samples and 17 TIL samples are open, and
-- housekeeping, ACC-E, housekeeping, ACC-E wait. API-V and ACC-E are cleared (mask 0810): the two housekeeping packets are left, TIL is
-- full with its 18th sample, API-V is not with one, and its packet begins anew. "cleared pieces have used theirs": ACC-E goes on from count
-- 10, housekeeping from 2.
abbrev pub clears : List Line
clears =
    "02 0A 0032 0000 0005" gets 0
    ∷ []
    ++ samples_of 0x04 3 0x00 35
    ++ samples_of 0x09 6 0x00 17
    ++ "02 0A 0016 0000" gets 0
    ∷ line (0x04 ∷ 0x0B ∷ replicate 512 0x11) 0 []
    ∷ "02 0A 0016 0000" gets 0
    ∷ line (0x04 ∷ 0x0B ∷ replicate 512 0x22) 0 []
    -- 0 clears nothing, nor does a mask that is refused
    ∷ "02 0A 0013 0000 0000" gets 0
    ∷ "02 0A 0013 0000 FFFF" gets 4
    ∷ "02 0A 0013 0000 0810" gets 0
    ∷ line (0x04 ∷ 0x09 ∷ upward 102 6) 0 []
    ∷ "04 04 808182" gets 0
    ∷ "05 0A" from 0 shows "0F94 C000 0077 000A"
    ∷ "05 0B" from 0 shows "0FB4 C000 0077 001A"
    ∷ []
    ++ polls_a 0x9 1 0 1 (hex "8888 000023 05" ++ upward 0x00 108 ++ hex "9999 9999")
    ++ "05 0A" gets 9
    ∷ line (0x04 ∷ 0x0B ∷ replicate 512 0x33) 0 []
    ∷ "02 0A 0016 0000" gets 0
    ∷ []
    ++ polls_a 0xB 2 10 5 (hex "8888 000034 15" ++ replicate 512 0x33 ++ replicate 72 0x99)
    ++ "05 0A" from 0 shows "0F94 C007 0077 002A"
    ∷ "05 0A" gets 9
    ∷ []
    ++ samples_of 0x04 3 0x83 35
    ++ polls_a 0x4 8 0 1 (hex "8888 000034 05" ++ upward 0x80 108 ++ hex "9999 9999")

-- "slots are free again": 48 housekeeping packets are cleared, two of them polled before, and 48 more find room; each of them took a count
abbrev pub clears_all : List Line
clears_all =
    times 48 ("02 0A 0016 0000" gets 0 ∷ [])
    ++ "02 0A 0016 0000" gets 7
    ∷ "05 0A" from 4 shows "0077 000A"
    ∷ "05 0A" from 4 shows "0077 001A"
    ∷ "02 0A 0013 0000 0400" gets 0
    ∷ "05 0A" gets 9
    ∷ []
    ++ times 48 ("02 0A 0016 0000" gets 0 ∷ [])
    ++ "02 0A 0016 0000" gets 7
    ∷ "05 0A" from 4 shows "0077 030A"
    ∷ []
