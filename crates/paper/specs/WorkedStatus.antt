-- Worked examples of document 01, "Status words": each flag by itself on both channels, and what the controller puts in itself.
-- Assumes nothing.
use Rattle.std.specs.Prelude.{List, [], ◌∷◌, ◌++◌}
use Rattle.paper.specs.WorkedLines.{Line, ◌gets◌, ◌gives◌, tick_each}

-- Two commands to mode 0: the command count's lowest bit and the mode's bits are 0. Then flags from bit 0, one at a time: "watchdog
-- OK, all OK, 12V OK, DDB loss, BCP loss, redundant 12V, nominal 12V, sounder", on A and on B; the low byte is A5.
abbrev pub each_flag : List Line
each_flag =
    "02 0A 0032 0001 0000" gets 0
    ∷ "02 0A 0032 0002 0000" gets 0
    ∷ "06 0A A5 00" gives "00A5"
    ∷ "06 0B A5 00" gives "00A5"
    -- watchdog OK: bit 14 of A
    ∷ "06 0A A5 01" gives "40A5"
    ∷ "06 0B A5 01" gives "00A5"
    -- all OK: bit 13 of both
    ∷ "06 0A A5 02" gives "20A5"
    ∷ "06 0B A5 02" gives "20A5"
    -- 12V OK: bit 8 of A
    ∷ "06 0A A5 04" gives "01A5"
    ∷ "06 0B A5 04" gives "00A5"
    -- DDB loss: bit 11 of B
    ∷ "06 0A A5 08" gives "00A5"
    ∷ "06 0B A5 08" gives "08A5"
    -- BCP loss: bit 10 of B
    ∷ "06 0A A5 10" gives "00A5"
    ∷ "06 0B A5 10" gives "04A5"
    -- redundant 12V: bit 9 of B
    ∷ "06 0A A5 20" gives "00A5"
    ∷ "06 0B A5 20" gives "02A5"
    -- nominal 12V: bit 8 of B
    ∷ "06 0A A5 40" gives "00A5"
    ∷ "06 0B A5 40" gives "01A5"
    -- sounder: bit 14 of B
    ∷ "06 0A A5 80" gives "00A5"
    ∷ "06 0B A5 80" gives "40A5"
    ∷ []

-- The mode is bits 11 to 9 of A, the command count's lowest bit is bit 12 of both, the impact flag bit 15 of both. (Three readings of
-- 2047 in mode 4 declare impact; a refused command is not counted; the low byte passes through.)
abbrev pub own_bits : List Line
own_bits =
    "06 0A 00 00" gives "0200"
    ∷ "06 0B 00 00" gives "0000"
    ∷ "02 0A 0032 0001 0002" gets 0
    ∷ "06 0A FF 00" gives "14FF"
    ∷ "06 0B FF 00" gives "10FF"
    ∷ "02 0B 0032 0002 0003" gets 0
    ∷ "06 0A 01 00" gives "0601"
    ∷ "06 0B 02 00" gives "0002"
    ∷ "02 0B 0032 0003 0010" gets 4
    ∷ "06 0A 01 00" gives "0601"
    ∷ "02 0A 0032 0004 0004" gets 0
    ∷ []
    ++ tick_each (2047 ∷ 2047 ∷ 2047 ∷ [])
    ++ "06 0A 00 00" gives "9800"
    ∷ "06 0B 00 00" gives "9000"
    ∷ "02 0A 0032 0005 0005" gets 0
    ∷ "06 0A 00 00" gives "8A00"
    ∷ "06 0B 00 00" gives "8000"
    ∷ "02 0A 0032 0006 0006" gets 0
    ∷ "06 0A 00 00" gives "9C00"
    ∷ "02 0A 0032 0007 000F" gets 0
    ∷ "06 0A 00 00" gives "8E00"
    ∷ "06 0B 00 FF" gives "EF00"
    ∷ "06 0A 00 FF" gives "EF00"
    ∷ []
