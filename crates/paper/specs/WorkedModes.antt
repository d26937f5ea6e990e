-- Worked examples of document 01, "Time and mode": the mode rule second by second, what an entry stores, and m.
-- Modes are read off status word A: with no flag, its high byte is twice the mode, plus 10 (hexadecimal) after an odd number of
-- accepted commands, plus 80 where impact was declared. What is stored is read off housekeeping, by the manual's offsets: 10 SSP time,
-- 13 mode, 14 altitude, 16 spin, 17 phase, 18 time of the last mode change, 21 last mode, 22 altitude at it.
-- Assumes nothing.
use Rattle.std.specs.Prelude.{List, [], ◌∷◌, ◌++◌}
use Prim.Native.String.{String}
use Rattle.paper.specs.WorkedLines.{Line, ◌gets◌, ◌gives◌, ◌from◌shows◌, tick_each}

-- ---- the rule

-- A descent high up, in one run. Seconds 599 and 600 (words 095F, 0960), 5099 and 5100 (4FAF, 4FB0), 7199 and 7200 (707F, 7080); mode 4
-- since 7200: 9059 and 9060 are 1859 and 1860 later (8D8F, 8D90); mode 5 since 9060: 9239 and 9240 are 179 and 180 later (905F, 9060).
abbrev pub descent : List Line
descent =
    "06 0A 00 00" gives "0200"
    ∷ "01 0A 0000 02BD 00 00" gets 0
    ∷ "06 0A 00 00" gives "0200"
    ∷ "01 0A 095F 02BD 00 00" gets 0
    ∷ "06 0A 00 00" gives "0200"
    ∷ "01 0B 0960 02BD 00 00" gets 0
    ∷ "06 0A 00 00" gives "0400"
    ∷ "01 0A 4FAF 02BD 00 00" gets 0
    ∷ "06 0A 00 00" gives "0400"
    ∷ "01 0B 4FB0 02BD 00 00" gets 0
    ∷ "06 0A 00 00" gives "0600"
    ∷ "01 0A 707F 02BD 00 00" gets 0
    ∷ "06 0A 00 00" gives "0600"
    ∷ "01 0A 7080 02BD 00 00" gets 0
    ∷ "06 0A 00 00" gives "0800"
    ∷ "01 0A 8D8F 02BD 00 00" gets 0
    ∷ "06 0A 00 00" gives "0800"
    ∷ "01 0A 8D90 02BD 00 00" gets 0
    ∷ "06 0A 00 00" gives "0A00"
    ∷ "01 0A 905F 0000 00 00" gets 0
    ∷ "06 0A 00 00" gives "0A00"
    ∷ "01 0A 9060 0000 00 00" gets 0
    ∷ "06 0A 00 00" gives "0C00"
    ∷ "01 0A FFFF 0000 00 00" gets 0
    ∷ "06 0A 00 00" gives "0C00"
    ∷ []

-- "altitude without bit 15 is at most 700": 701 (02BD) and 700 (02BC), measured and predicted, from modes 1, 2 and 3; and "the greater of
-- itself and the target": at second 0 modes 2, 3 and 4 stay
abbrev pub heights : List Line
heights =
    "01 0A 0000 02BD 00 00" gets 0
    ∷ "06 0A 00 00" gives "0200"
    ∷ "01 0A 0000 82BD 00 00" gets 0
    ∷ "06 0A 00 00" gives "0200"
    ∷ "01 0A 0000 82BC 00 00" gets 0
    ∷ "06 0A 00 00" gives "0800"
    ∷ "01 0A 0000 02BD 00 00" gets 0
    ∷ "06 0A 00 00" gives "0800"
    ∷ "02 0A 0032 0000 0002" gets 0
    ∷ "01 0A 0000 02BD 00 00" gets 0
    ∷ "06 0A 00 00" gives "1400"
    ∷ "01 0A 0000 02BC 00 00" gets 0
    ∷ "06 0A 00 00" gives "1800"
    ∷ "02 0A 0032 0000 0003" gets 0
    ∷ "01 0A 0000 82BD 00 00" gets 0
    ∷ "06 0A 00 00" gives "0600"
    ∷ "01 0A 0000 8000 00 00" gets 0
    ∷ "06 0A 00 00" gives "0800"
    ∷ []

-- "At most one change per broadcast": mode 4 since second 0 goes to 5 at second 16383, and does not go on to 6
abbrev pub one_change : List Line
one_change =
    "01 0A 0000 0000 00 00" gets 0
    ∷ "06 0A 00 00" gives "0800"
    ∷ "01 0A FFFF 0000 00 00" gets 0
    ∷ "06 0A 00 00" gives "0A00"
    ∷ "01 0A FFFF 0000 00 00" gets 0
    ∷ "06 0A 00 00" gives "0A00"
    ∷ []

-- seconds 600, 5100, 7200, 9060 and 16383 at 7 km, with the mode (twice, and one command) after each
abbrev through_descent : String → List Line
through_descent word =
    "01 0A 0960 02BC 00 00" gets 0
    ∷ "06 0A 00 00" gives word
    ∷ "01 0A 4FB0 02BC 00 00" gets 0
    ∷ "06 0A 00 00" gives word
    ∷ "01 0A 7080 02BC 00 00" gets 0
    ∷ "06 0A 00 00" gives word
    ∷ "01 0A 8D90 02BC 00 00" gets 0
    ∷ "06 0A 00 00" gives word
    ∷ "01 0A FFFF 02BC 00 00" gets 0
    ∷ "06 0A 00 00" gives word
    ∷ []

-- "modes 0, 6 and 7 stay"
abbrev pub stays_0 : List Line
stays_0 = "02 0A 0032 0000 0000" gets 0 ∷ through_descent "1000"

abbrev pub stays_6 : List Line
stays_6 = "02 0A 0032 0000 0006" gets 0 ∷ through_descent "1C00"

abbrev pub stays_7 : List Line
stays_7 = "02 0A 0032 0000 0007" gets 0 ∷ through_descent "1E00"

-- "if unlocked": locked modes 1 to 5 stay
abbrev pub locked_1 : List Line
locked_1 = "02 0A 0032 0000 0009" gets 0 ∷ through_descent "1200"

abbrev pub locked_2 : List Line
locked_2 = "02 0A 0032 0000 000A" gets 0 ∷ through_descent "1400"

abbrev pub locked_3 : List Line
locked_3 = "02 0A 0032 0000 000B" gets 0 ∷ through_descent "1600"

abbrev pub locked_4 : List Line
locked_4 = "02 0A 0032 0000 000C" gets 0 ∷ through_descent "1800"

abbrev pub locked_5 : List Line
locked_5 = "02 0A 0032 0000 000D" gets 0 ∷ through_descent "1A00"

-- ---- "0032 set mode .. mode is the value modulo 8, locked from 8 up"

-- each value, and the mode byte of a housekeeping packet built in it (mode, plus 8 if locked); "any mode": housekeeping is sent in all
abbrev pub setting_modes : List Line
setting_modes =
    "02 0A 0032 0000 0000" gets 0
    ∷ "02 0A 0016 0000" gets 0
    ∷ "05 0A" from 13 shows "00"
    ∷ "02 0A 0032 0000 0001" gets 0
    ∷ "02 0A 0016 0000" gets 0
    ∷ "05 0A" from 13 shows "01"
    ∷ "02 0A 0032 0000 0007" gets 0
    ∷ "02 0A 0016 0000" gets 0
    ∷ "05 0A" from 13 shows "07"
    ∷ "02 0A 0032 0000 0008" gets 0
    ∷ "02 0A 0016 0000" gets 0
    ∷ "05 0A" from 13 shows "08"
    ∷ "02 0A 0032 0000 0009" gets 0
    ∷ "02 0A 0016 0000" gets 0
    ∷ "05 0A" from 13 shows "09"
    ∷ "02 0A 0032 0000 000C" gets 0
    ∷ "02 0A 0016 0000" gets 0
    ∷ "05 0A" from 13 shows "0C"
    ∷ "02 0A 0032 0000 000F" gets 0
    ∷ "02 0A 0016 0000" gets 0
    ∷ "05 0A" from 13 shows "0F"
    ∷ []

-- ---- seconds from which modes 4 and 5 are measured

-- "each accepted set-mode even to the same mode, is an entry": mode 4 since 0, set again at 1000 (0FA0): not 1860 (1D10), nor 2859 (2CAF),
-- but 2860 (2CB0) is 1860 later
abbrev pub four_again : List Line
four_again =
    "02 0A 0032 0000 0004" gets 0
    ∷ "01 0A 0FA0 02BD 00 00" gets 0
    ∷ "02 0A 0032 0000 0004" gets 0
    ∷ "01 0A 1D10 02BD 00 00" gets 0
    ∷ "06 0A 00 00" gives "0800"
    ∷ "01 0A 2CAF 02BD 00 00" gets 0
    ∷ "06 0A 00 00" gives "0800"
    ∷ "01 0A 2CB0 02BD 00 00" gets 0
    ∷ "06 0A 00 00" gives "0A00"
    ∷ []

-- "The reference second of mode 5 is .. T at entry": set at 600 (0960) and again at 700 (0AF0): not 780 (0C30), nor 879 (0DBF), but 880
-- (0DC0) is 180 later
abbrev pub five_again : List Line
five_again =
    "01 0A 0960 02BD 00 00" gets 0
    ∷ "02 0A 0032 0000 0005" gets 0
    ∷ "01 0A 0AF0 02BD 00 00" gets 0
    ∷ "02 0A 0032 0000 0005" gets 0
    ∷ "01 0A 0C30 02BD 00 00" gets 0
    ∷ "06 0A 00 00" gives "0A00"
    ∷ "01 0A 0DBF 02BD 00 00" gets 0
    ∷ "06 0A 00 00" gives "0A00"
    ∷ "01 0A 0DC0 02BD 00 00" gets 0
    ∷ "06 0A 00 00" gives "0C00"
    ∷ []

-- ---- what a broadcast stores, and what an entry does

-- Second 600 (SSP time 096000): mode 2, an entry from mode 1 at altitude 8ABC, spin 12, phase 34. Three ticks later (096003) mode 3 is
-- set, locked (0B): an entry from 02. Second 601 (096400), altitude 1111: locked, so no entry; a tick later (096401) locked mode 1 is set:
-- from 0B. Locked mode 0: from 09. Again: from 08. Mode 2: from 08. Mode 7: from 02.
abbrev pub entries : List Line
entries =
    "02 0A 0016 0000" gets 0
    ∷ "05 0A" from 10 shows "000000 01 0000 00 00 000000 00 0000"
    ∷ "01 0A 0960 8ABC 12 34" gets 0
    ∷ "02 0A 0016 0000" gets 0
    ∷ "05 0A" from 10 shows "096000 02 8ABC 12 34 096000 01 8ABC"
    ∷ []
    ++ tick_each (0 ∷ 0 ∷ 0 ∷ [])
    ++ "02 0A 0032 0000 000B" gets 0
    ∷ "02 0A 0016 0000" gets 0
    ∷ "05 0A" from 10 shows "096003 0B 8ABC 12 34 096003 02 8ABC"
    ∷ "01 0B 0967 1111 56 78" gets 0
    ∷ "02 0A 0016 0000" gets 0
    ∷ "05 0A" from 10 shows "096400 0B 1111 56 78 096003 02 8ABC"
    ∷ "03 0000" gets 0
    ∷ "02 0A 0032 0000 0009" gets 0
    ∷ "02 0A 0016 0000" gets 0
    ∷ "05 0A" from 10 shows "096401 09 1111 56 78 096401 0B 1111"
    ∷ "02 0A 0032 0000 0008" gets 0
    ∷ "02 0A 0016 0000" gets 0
    ∷ "05 0A" from 10 shows "096401 08 1111 56 78 096401 09 1111"
    -- a late broadcast stores nothing
    ∷ "01 0B 0960 2222 9A BC" gets 5
    ∷ "02 0A 0032 0000 0008" gets 0
    ∷ "02 0A 0016 0000" gets 0
    ∷ "05 0A" from 10 shows "096401 08 1111 56 78 096401 08 1111"
    ∷ "02 0A 0032 0000 0002" gets 0
    ∷ "02 0A 0016 0000" gets 0
    ∷ "05 0A" from 10 shows "096401 02 1111 56 78 096401 08 1111"
    ∷ "02 0A 0032 0000 0007" gets 0
    ∷ "02 0A 0016 0000" gets 0
    ∷ "05 0A" from 10 shows "096401 07 1111 56 78 096401 02 1111"
    ∷ []

-- ---- "m counts ticks since the last accepted broadcast"

-- Ticks before the first broadcast count; a broadcast sets m to 0, of the same second too; a refused tick does not count, nor does a
-- refused broadcast. (That m stays at 1023 is part of the locked run of WorkedImpact.)
abbrev pub m_counts : List Line
m_counts =
    "03 0007" gets 0
    ∷ "03 0007" gets 0
    ∷ "02 0A 0016 0000" gets 0
    ∷ "05 0A" from 10 shows "000002"
    ∷ "01 0A 0004 02BD 00 00" gets 0
    ∷ "02 0A 0016 0000" gets 0
    ∷ "05 0A" from 10 shows "000400"
    ∷ "03 0000" gets 0
    ∷ "03 0FFF" gets 0
    ∷ "03 1000" gets 4
    ∷ "01 0A 0003 02BD 00 00" gets 5
    ∷ "02 0A 0016 0000" gets 0
    ∷ "05 0A" from 10 shows "000402"
    ∷ "01 0B 0007 02BD 00 00" gets 0
    ∷ "03 0000" gets 0
    ∷ "02 0A 0016 0000" gets 0
    ∷ "05 0A" from 10 shows "000401"
    ∷ []
