-- Worked examples of document 01, housekeeping and the counts that it shows, by the offsets of the manual's table 3.2.12.2: 24 commands, 26
-- and 28 broadcasts on A and B, 30 and 32 command packets, 34 and 36 telemetry packets, 38 errors, 39 the error code, 40 the last command's
-- sequence number, 41 its code, 42 to 65 the streams' counts.
-- Assumes nothing.
use Rattle.std.specs.Prelude.{List, [], ◌∷◌, ◌++◌, ℕ, replicate}
use Rattle.paper.specs.WorkedLines.{Line, line, hex, upward, ◌gets◌, ◌from◌shows◌, ◌lent◌, times, tick_each, polls_b}

-- a sample of zeros
abbrev zero_sample : (s width : ℕ) → List Line
zero_sample s width = line (0x04 ∷ s ∷ replicate width 0) 0 [] ∷ []

-- ---- a packet in which every field is nonzero and different from every other

abbrev pub every_field : List Line
every_field =
    -- 15 broadcasts on B: second 600, mode 2
    times 15 ("01 0B 0960 1234 11 22" gets 0 ∷ [])
    ++ line (0x07 ∷ upward 0x01 58) 0 []
    ∷ line (0x07 ∷ upward 0xC0 58) 0 []
    ∷ []
    -- packets of API-V, DEN, PER and TIL: 1, 2, 3 and 4
    ++ times 36 (zero_sample 0x04 3)
    ++ times 144 (zero_sample 0x05 2)
    ++ times 108 (zero_sample 0x06 3)
    ++ times 72 (zero_sample 0x09 6)
    -- one of ACC-E, in 5 pieces, and one of ACC-I, in 7, after 451 ticks (1C3) in mode 4, locked
    ++ "02 0A 0032 0000 0005" gets 0
    ∷ []
    ++ zero_sample 0x0B 512
    ++ "02 0A 0032 0000 000C" gets 0
    ∷ []
    ++ tick_each (replicate 451 0x7FF)
    -- six of housekeeping
    ++ times 6 ("02 0A 0016 0000" gets 0 ∷ [])
    -- 12 late broadcasts on A
    ++ times 12 ("01 0A 0000 02BC 00 00" gets 5 ∷ [])
    -- 5 more commands on A and 4 on B that are accepted; 6 errors on A and 5 on B, the last of them a 4
    ++ times 5 ("02 0A 0013 0000 0000" gets 0 ∷ [])
    ++ times 4 ("02 0B 0013 0000 0000" gets 0 ∷ [])
    ++ times 6 ("02 0A 0099 0000" gets 2 ∷ [])
    ++ times 4 ("02 0B 0016 0000 00" gets 3 ∷ [])
    ++ "02 0B 0032 0000 0010" gets 4
    -- mode 6, locked (0E), entered from 0C at 0961C3 and altitude 1234
    ∷ "02 0A 0032 0000 000E" gets 0
    ∷ []
    -- 18 polls on A and 10 on B: all 28 pieces
    ++ times 18 ("05 0A" from 0 shows "0F94" ∷ [])
    ++ times 10 ("05 0B" from 0 shows "0FB4" ∷ [])
    ++ "05 0B" gets 9
    -- the 13th broadcast on A, and five ticks
    ∷ "01 0A CCCC 8ABC 5D 6F" gets 0
    ∷ []
    ++ tick_each (1 ∷ 2 ∷ 3 ∷ 4 ∷ 5 ∷ [])
    -- the 15th accepted command on A, the 19th in all
    ++ "02 0A 0016 F0E5" gets 0
    ∷ []
    ++ polls_b 0xA 10 6 1
    (hex "8888 CCCC05 0E 8ABC 5D 6F 0961C3 0C 1234"
    -- commands, broadcasts, command packets, telemetry packets, errors and last command
    ++ hex "0013 000D 000F 0015 0009 0012 000A 0B 04 E5 16"
    -- the streams' counts, times 16: ACC-I 7, API-V 1, DEN 2, PER 3, TIL 4, housekeeping 6, ACC-E 5
    ++ hex "0000 0000 0070 0000 0010 0020 0030 0000 0000 0040 0060 0050"
    ++ upward 0xC0 58
    ++ hex "9999")

-- before any frame 07, and before anything else
abbrev pub from_fresh : List Line
from_fresh =
    "02 0B 0016 1234" gets 0
    ∷ []
    ++ polls_b 0xA 0 0 1
    (hex "8888 000000 01 0000 00 00 000000 00 0000"
    ++ hex "0001 0000 0000 0000 0001 0000 0000 00 00 34 16"
    ++ replicate 24 0
    ++ replicate 58 0
    ++ hex "9999")

-- ---- error count and error code, last sequence number and last code

-- After a refusal with 2, 3, 4 and 7, each on another channel than the next command: its packet count and the error count are raised and
-- the code is the reply; sequence and code stay those of the last accepted command. An accepted command leaves count and code.
abbrev pub after_errors : List Line
after_errors =
    "02 0B 0099 0012" gets 2
    ∷ "02 0A 0016 0181" gets 0
    ∷ "05 0A" from 24 shows "0001 0000 0000 0001 0001 0000 0000 01 02 81 16"
    ∷ "02 0A 0016 0104" gets 0
    ∷ "05 0A" from 24 shows "0002 0000 0000 0002 0001 0001 0000 01 02 04 16"
    ∷ "02 0A 0016 0299 00" gets 3
    ∷ "02 0B 0016 01FE" gets 0
    ∷ "05 0B" from 24 shows "0003 0000 0000 0003 0002 0002 0000 02 03 FE 16"
    ∷ "02 0B 0032 0055 0010" gets 4
    ∷ "02 0A 0032 00F7 0001" gets 0
    ∷ "02 0A 0016 00F8" gets 0
    ∷ "05 0A" from 24 shows "0005 0000 0000 0005 0003 0002 0001 03 04 F8 16"
    -- 48 housekeeping packets wait; the next is refused with 7; all are cleared
    ∷ []
    ++ times 48 ("02 0A 0016 0000" gets 0 ∷ [])
    ++ "02 0B 0016 0056" gets 7
    ∷ "02 0A 0013 0099 0400" gets 0
    ∷ "02 0A 0016 00FF" gets 0
    ∷ "05 0A" from 24 shows "0037 0000 0000 0037 0004 0003 0001 04 07 FF 16"
    -- a broadcast that is late raises its own count alone; nothing else that is refused changes anything
    ∷ "01 0B 0004 02BD 00 00" gets 0
    ∷ "01 0A 0000 02BC 99 99" gets 5
    ∷ "01 0A 0003 02BC 99 99" gets 5
    ∷ "01 0C 0000 02BC 00 00" gets 1
    ∷ "02 0C 0099 0057" gets 1
    ∷ "02 0A 0099 00" gets 1
    ∷ "02 0A 0099 0058" gets 8 lent 125
    ∷ "03 1000" gets 4
    ∷ "04 03 000000" gets 2
    ∷ "04 04 00" gets 3
    ∷ "04 05 FFFF" gets 4
    ∷ line (0x04 ∷ 0x0B ∷ replicate 512 0) 6 []
    ∷ "05 0B" gets 9
    ∷ "05 0C" gets 1
    ∷ "02 0B 0016 0059" gets 0
    ∷ "05 0B" from 24 shows "0038 0002 0001 0037 0005 0004 0001 04 07 59 16"
    ∷ []

-- "the error count is 8 bits and wraps too": 255 errors, then 256
abbrev pub errors_wrap : List Line
errors_wrap =
    times 255 ("02 0A 0099 0000" gets 2 ∷ [])
    ++ "02 0A 0016 0000" gets 0
    ∷ "05 0A" from 38 shows "FF 02"
    ∷ "02 0A 0099 0000" gets 2
    ∷ "02 0A 0016 0000" gets 0
    ∷ "05 0A" from 38 shows "00 02"
    -- 256 refused and 2 accepted commands: the packet count has 16 bits
    ∷ "02 0A 0016 0000" gets 0
    ∷ "05 0A" from 30 shows "0103"
    ∷ []
