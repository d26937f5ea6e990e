-- Worked examples of document 01, "Impact": whole runs from an entry to mode 4 to the seven pieces of the record, with readings that
-- tell their places apart. Modes are read off status word A as in WorkedModes.
-- Assumes nothing.
use Rattle.std.specs.Prelude.{List, [], ◌∷◌, ◌++◌, ℕ, replicate}
use Prim.Native.String.{String}
use Rattle.paper.specs.WorkedLines.{Line, hex, upward, packed, ◌gets◌, ◌gives◌, ◌from◌shows◌, times, tick_each, polls_a}

-- a record as it is sent: opening, SSP time and mode, 512 readings, closing (2) and fill (776 to 826: 50)
abbrev record_of : String → List ℕ → List ℕ
record_of head readings = hex "8888" ++ hex head ++ packed readings ++ replicate 52 0x99

-- ---- which readings are above

-- 80 is not above, 81 is; 2047 is the greatest reading, 2048 and 4095 are below zero; two of the last five do not declare impact, three do
abbrev pub above_or_not : List Line
above_or_not =
    "02 0A 0032 0000 000C" gets 0
    ∷ []
    ++ tick_each (80 ∷ 80 ∷ 80 ∷ 80 ∷ 80 ∷ [])
    ++ "06 0A 00 00" gives "1800"
    ∷ []
    ++ tick_each (2048 ∷ 2048 ∷ 2048 ∷ 4095 ∷ 4095 ∷ 4095 ∷ [])
    ++ "06 0A 00 00" gives "1800"
    ∷ []
    ++ tick_each (81 ∷ 2047 ∷ 0 ∷ 0 ∷ 0 ∷ 81 ∷ 0 ∷ 81 ∷ 0 ∷ [])
    ++ "06 0A 00 00" gives "1800" ∷ "03 0051" gets 0 ∷ "06 0A 00 00" gives "9800" ∷ []

-- "In mode 4": elsewhere a reading is neither kept nor compared
abbrev pub elsewhere : List Line
elsewhere =
    "02 0A 0032 0000 0003" gets 0
    ∷ []
    ++ tick_each (2047 ∷ 2047 ∷ 2047 ∷ 2047 ∷ 2047 ∷ [])
    ++ "06 0A 00 00" gives "1600"
    ∷ "02 0A 0032 0000 0005" gets 0
    ∷ []
    ++ tick_each (2047 ∷ 2047 ∷ 2047 ∷ 2047 ∷ 2047 ∷ []) ++ "06 0A 00 00" gives "0A00" ∷ []

-- ---- a whole run, unlocked

-- A first visit to mode 4 leaves readings in ring and window. Second 1000 (SSP time 0FA000) brings mode 4 again, which empties them. Twenty
-- quiet readings, then 81, 82, 83: the 23rd tick declares impact (0FA017). A hundred readings on, second 1100 (113000) is broadcast: the
-- mode stays. All streams are cleared: the collection stays. On the record's last tick 42 packets wait, then 48, then 42 again, then 41:
-- it is refused with 7 (and with 4 where the reading is out of range) until seven slots are free, and what was refused is not in the
-- record, nor counted for m. So the 448th further tick comes 348 ticks (15C) after the broadcast, and completes the record: 41 places are
-- missing. Mode 5 is entered then, from mode 4; its reference second is 1000, that of the impact: 1179 (126C) does not end it, 1180
-- (1270) does.
abbrev pub unlocked_run : List Line
unlocked_run =
    "02 0A 0032 0000 0004" gets 0
    ∷ []
    ++ tick_each (0x11 ∷ 0x12 ∷ 0x7FF ∷ 0x7FF ∷ [])
    ++ "02 0A 0032 0000 0003" gets 0
    ∷ "01 0A 0FA0 02BC 00 00" gets 0
    ∷ []
    ++ tick_each (upward 1 20 ++ (81 ∷ 82 ∷ []))
    ++ "06 0A 00 00" gives "0800"
    ∷ "03 0053" gets 0
    ∷ "06 0A 00 00" gives "8800"
    ∷ []
    ++ tick_each (upward 0x200 100)
    ++ "01 0A 1130 7FFF 00 00" gets 0
    ∷ "06 0A 00 00" gives "8800"
    ∷ "02 0A 0013 0000 0E74" gets 0
    ∷ []
    ++ tick_each (upward 0x264 347)
    ++ "06 0A 00 00" gives "9800"
    ∷ "05 0A" gets 9
    ∷ []
    ++ times 42 ("02 0A 0016 0000" gets 0 ∷ [])
    ++ "03 03BF" gets 7
    ∷ "03 0124" gets 7
    ∷ "03 1000" gets 4
    ∷ "06 0A 00 00" gives "9800"
    ∷ []
    ++ times 6 ("02 0A 0016 0000" gets 0 ∷ [])
    ++ "03 0125" gets 7
    ∷ []
    ++ times 6 ("05 0A" from 4 shows "0077" ∷ [])
    ++ "03 0126" gets 7
    ∷ "05 0A" from 4 shows "0077"
    ∷ "03 03BF" gets 0
    ∷ "06 0A 00 00" gives "9A00"
    ∷ "02 0A 0016 0000" gets 7
    ∷ []
    ++ times 41 ("05 0A" from 4 shows "0077" ∷ [])
    ++ polls_a 2 48 0 7 (record_of "0FA017 04" (replicate 41 0 ++ upward 1 20 ++ (81 ∷ 82 ∷ 83 ∷ []) ++ upward 0x200 448))
    ++ "02 0A 0016 0000" gets 0
    ∷ "05 0A" from 10 shows "11315C 05 7FFF 00 00 11315C 04 7FFF"
    ∷ "01 0A 126C 7FFF 00 00" gets 0
    ∷ "06 0A 00 00" gives "8A00"
    ∷ "01 0A 1270 7FFF 00 00" gets 0
    ∷ "06 0A 00 00" gives "8C00"
    ∷ []

-- ---- a whole run, locked

-- Second 16383 (SSP time FFFC00), mode 4 set and locked (0C). 513 readings below zero, then 7FF, 051, 7FE: the 516th tick (204) declares
-- impact. The record holds the last 512 readings: 61 quiet ones, three, and 448. The mode stays, m being 964 (3C4). 449 more readings that
-- are above declare nothing. Meanwhile "m .. stays at 1023": it is 1022 (3FE), 1023 (3FF), and 1023; neither a refused tick nor a late
-- broadcast changes it.
abbrev pub locked_run : List Line
locked_run =
    "01 0A FFFC 7FFF 00 00" gets 0
    ∷ "02 0A 0032 0000 000C" gets 0
    ∷ []
    ++ tick_each (upward 0x800 513 ++ (0x7FF ∷ 0x051 ∷ []))
    ++ "06 0A 00 00" gives "1800"
    ∷ "03 07FE" gets 0
    ∷ "06 0A 00 00" gives "9800"
    ∷ []
    ++ tick_each (upward 0x300 447)
    ++ "05 0A" gets 9
    ∷ "03 04BF" gets 0
    ∷ "06 0A 00 00" gives "9800"
    ∷ []
    ++ polls_a 2 0 0 7 (record_of "FFFE04 0C" (upward 0x9C4 61 ++ (0x7FF ∷ 0x051 ∷ 0x7FE ∷ []) ++ upward 0x300 448))
    ++ tick_each (upward 0x300 58)
    ++ "02 0A 0016 0000" gets 0
    ∷ "05 0A" from 10 shows "FFFFFE 0C"
    ∷ "03 1000" gets 4
    ∷ "01 0A FFFB 7FFF 00 00" gets 5
    ∷ "03 07FF" gets 0
    ∷ "02 0A 0016 0000" gets 0
    ∷ "05 0A" from 10 shows "FFFFFF 0C"
    ∷ "03 07FF" gets 0
    ∷ "02 0A 0016 0000" gets 0
    ∷ "05 0A" from 10 shows "FFFFFF 0C"
    ∷ []
    ++ tick_each (upward 0x300 389)
    ++ "06 0A 00 00" gives "8800"
    ∷ "05 0A" gets 9
    ∷ []

-- ---- the next entry to mode 4

-- "Entering mode 4 empties window .. and clears the impact flag", by command and by a broadcast: two readings above before it do not count
abbrev pub entries_to_4 : List Line
entries_to_4 =
    "02 0A 0032 0000 0004" gets 0
    ∷ "03 07FF" gets 0
    ∷ "03 07FF" gets 0
    ∷ "02 0A 0032 0000 0004" gets 0
    ∷ "03 07FF" gets 0
    ∷ "03 07FF" gets 0
    ∷ "06 0A 00 00" gives "0800"
    ∷ "03 07FF" gets 0
    ∷ "06 0A 00 00" gives "8800"
    ∷ "02 0A 0032 0000 0003" gets 0
    ∷ "06 0A 00 00" gives "9600"
    ∷ "01 0A 0000 02BC 00 00" gets 0
    ∷ "06 0A 00 00" gives "1800"
    ∷ "03 07FF" gets 0
    ∷ "03 07FF" gets 0
    ∷ "06 0A 00 00" gives "1800"
    ∷ "03 07FF" gets 0
    ∷ "06 0A 00 00" gives "9800"
    ∷ []

-- "Any entry by command abandons a running collection." Set mode 4 while a record is being collected, then mode 12: the flag is cleared, and
-- three readings above declare impact again. Mode 5 leaves the flag; mode 4 after it clears it, and three readings declare impact once
-- more. "but not while an impact record is being collected": mode 4, set at second 0, does not end at 1860 (1D10) then; it does once the
-- collection is abandoned by mode 4, set at 1860, and 1860 more seconds are past (3720: 3A20).
abbrev pub abandoned : List Line
abandoned =
    "02 0A 0032 0000 0004" gets 0
    ∷ []
    ++ tick_each (0x11 ∷ 0x7FF ∷ 0x7FF ∷ 0x7FF ∷ [])
    ++ "06 0A 00 00" gives "9800"
    ∷ "02 0A 0032 0000 0004" gets 0
    ∷ "06 0A 00 00" gives "0800"
    ∷ []
    ++ tick_each (0x12 ∷ 0x7FF ∷ 0x7FF ∷ [])
    ++ "06 0A 00 00" gives "0800"
    ∷ "03 07FF" gets 0
    ∷ "06 0A 00 00" gives "8800"
    ∷ "02 0A 0032 0000 000C" gets 0
    ∷ "06 0A 00 00" gives "1800"
    ∷ "03 07FF" gets 0
    ∷ "03 07FF" gets 0
    ∷ "06 0A 00 00" gives "1800"
    ∷ "03 07FF" gets 0
    ∷ "06 0A 00 00" gives "9800"
    ∷ "02 0A 0032 0000 0005" gets 0
    ∷ "06 0A 00 00" gives "8A00"
    ∷ "02 0A 0032 0000 0004" gets 0
    ∷ "06 0A 00 00" gives "1800"
    ∷ []
    ++ tick_each (0x21 ∷ 0x7FF ∷ 0x7FF ∷ [])
    ++ "06 0A 00 00" gives "1800"
    ∷ "03 07FF" gets 0
    ∷ "06 0A 00 00" gives "9800"
    ∷ "01 0A 1D10 02BD 00 00" gets 0
    ∷ "06 0A 00 00" gives "9800"
    ∷ "02 0A 0032 0000 0004" gets 0
    ∷ "01 0A 3A1F 02BD 00 00" gets 0
    ∷ "06 0A 00 00" gives "0800"
    ∷ "01 0A 3A20 02BD 00 00" gets 0
    ∷ "06 0A 00 00" gives "0A00"
    ∷ []
