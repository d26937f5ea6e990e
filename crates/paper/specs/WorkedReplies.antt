-- Worked examples of document 01, "Frames" and "What the controller replies": sizes, ids, lengths, streams, modes and values, and which
-- reply comes where two apply.
-- Assumes nothing.
use Rattle.std.specs.Prelude.{cond, List, [], ◌∷◌, ◌++◌, map, ℕ, replicate}
use Rattle.paper.specs.Frames.{cdmu_a, cdmu_b, Frame, broadcast, command, tick, sample, poll, status, analogue, faulty}
use Rattle.paper.specs.Step.{changes_listed}
use Rattle.paper.specs.WorkedLines.{Line, line, upward, ◌gets◌, ◌gives◌, ◌from◌shows◌, ◌lent◌, times}

-- ---- "1: empty, unknown kind or channel, or wrong size above"

-- every kind one byte short and one byte long, and as it should be
abbrev pub sizes : List Line
sizes =
    "" gets 1
    ∷ "00 0A" gets 1
    ∷ "08 0A" gets 1
    ∷ "FF 0A" gets 1
    -- 01: 8 bytes
    ∷ "01 0A 0000 02BD 00" gets 1
    ∷ "01 0A 0000 02BD 00 00 00" gets 1
    ∷ "01 0A 0000 02BD 00 00" gets 0
    -- 02: 6 or more (what is more is parameters, and 0016 has none)
    ∷ "02 0A 0016 00" gets 1
    ∷ "02 0A 0016 0000 00" gets 3
    ∷ "02 0A 0016 0000" gets 0
    -- 03: 3 bytes
    ∷ "03 00" gets 1
    ∷ "03 0000 00" gets 1
    ∷ "03 0000" gets 0
    -- 04: 2 or more (what is more is the sample)
    ∷ "04" gets 1
    ∷ "04 04" gets 3
    ∷ "04 04 000000" gets 0
    -- 05: 2 bytes
    ∷ "05" gets 1
    ∷ "05 0A 00" gets 1
    ∷ "05 0A" from 0 shows "0F94 C000 0077 000A 8888"
    -- 06: 4 bytes
    ∷ "06 0A 00" gets 1
    ∷ "06 0A 00 00 00" gets 1
    ∷ "06 0A 00 00" gives "1200"
    -- 07: 59 bytes
    ∷ line (0x07 ∷ replicate 57 0x11) 1 []
    ∷ line (0x07 ∷ replicate 59 0x11) 1 []
    ∷ line (0x07 ∷ replicate 58 0x11) 0 []
    ∷ []

-- "Channel cc is 0A or 0B."
abbrev pub channels : List Line
channels =
    "01 09 0000 02BD 00 00" gets 1
    ∷ "01 0C 0000 02BD 00 00" gets 1
    ∷ "02 00 0016 0000" gets 1
    ∷ "02 0C 0016 0000" gets 1
    ∷ "05 0C" gets 1
    ∷ "05 A0" gets 1
    ∷ "06 0C 00 00" gets 1
    ∷ "06 1A 00 00" gets 1
    -- none of them was taken
    ∷ "05 0A" gets 9
    ∷ "05 0B" gets 9
    ∷ []

-- ---- "2: command id .. not carried"; "3: wrong parameter .. length"; "4: value out of range"

abbrev pub ids_and_lengths : List Line
ids_and_lengths =
    -- ids beside 0013, 0016 and 0032, and those that share a byte with them; 2 before 3
    "02 0A 0000 0000" gets 2
    ∷ "02 0A 0012 0000 0000" gets 2
    ∷ "02 0B 0014 0000 0000" gets 2
    ∷ "02 0A 0015 0000" gets 2
    ∷ "02 0B 0017 0000" gets 2
    ∷ "02 0A 0031 0000 0001" gets 2
    ∷ "02 0A 0033 0000 0001" gets 2
    ∷ "02 0A 0113 0000 0000" gets 2
    ∷ "02 0A 1600 0000" gets 2
    ∷ "02 0A FFFF 0000 00" gets 2
    -- 0013 has two bytes
    ∷ "02 0A 0013 0000" gets 3
    ∷ "02 0A 0013 0000 00" gets 3
    ∷ "02 0A 0013 0000 0000 00" gets 3
    ∷ "02 0A 0013 0000 0000 0000" gets 3
    ∷ "02 0A 0013 0000 0000" gets 0
    -- 0016 has none
    ∷ "02 0A 0016 0000 00" gets 3
    ∷ "02 0A 0016 0000 0000" gets 3
    ∷ "02 0A 0016 0000" gets 0
    -- 0032 has two
    ∷ "02 0A 0032 0000" gets 3
    ∷ "02 0A 0032 0000 01" gets 3
    ∷ "02 0A 0032 0000 0001 00" gets 3
    ∷ "02 0A 0032 0000 0001" gets 0
    -- "0 to 15"
    ∷ "02 0A 0032 0000 000F" gets 0
    ∷ "02 0A 0032 0000 0010" gets 4
    ∷ "02 0A 0032 0000 0100" gets 4
    ∷ "02 0A 0032 0000 FFFF" gets 4
    -- 3 before 4
    ∷ "02 0A 0032 0000 0010 00" gets 3
    ∷ "02 0A 0013 0000 0001 00" gets 3
    ∷ []

-- "bits outside 0E74 give 4; 0 clears nothing": streams 2, 4, 5, 6, 9, A and B
abbrev pub masks : List Line
masks =
    "02 0A 0013 0000 0001" gets 4
    ∷ "02 0A 0013 0000 0002" gets 4
    ∷ "02 0A 0013 0000 0004" gets 0
    ∷ "02 0A 0013 0000 0008" gets 4
    ∷ "02 0A 0013 0000 0010" gets 0
    ∷ "02 0A 0013 0000 0020" gets 0
    ∷ "02 0A 0013 0000 0040" gets 0
    ∷ "02 0A 0013 0000 0080" gets 4
    ∷ "02 0A 0013 0000 0100" gets 4
    ∷ "02 0A 0013 0000 0200" gets 0
    ∷ "02 0A 0013 0000 0400" gets 0
    ∷ "02 0A 0013 0000 0800" gets 0
    ∷ "02 0A 0013 0000 1000" gets 4
    ∷ "02 0A 0013 0000 2000" gets 4
    ∷ "02 0A 0013 0000 4000" gets 4
    ∷ "02 0A 0013 0000 8000" gets 4
    ∷ "02 0A 0013 0000 0E74" gets 0
    ∷ "02 0A 0013 0000 0E75" gets 4
    ∷ "02 0A 0013 0000 FFFF" gets 4
    ∷ []

-- ---- "2: .. stream not carried"; "3: wrong .. sample length"; "6: sample not taken in this mode"

-- "Sample frames exist for 4, 5, 6, 9 and B; any other stream in one gets 2." (14 is not stream 4.)
abbrev pub other_streams : List Line
other_streams =
    "04 00 000000" gets 2
    ∷ "04 01 000000" gets 2
    ∷ "04 02 000000" gets 2
    ∷ "04 03 000000" gets 2
    ∷ "04 07 000000" gets 2
    ∷ "04 08 000000" gets 2
    ∷ "04 0A 000000" gets 2
    ∷ "04 0C 000000" gets 2
    ∷ "04 0D 000000" gets 2
    ∷ "04 0E 000000" gets 2
    ∷ "04 0F 000000" gets 2
    ∷ "04 14 000000" gets 2
    ∷ "04 FF" gets 2
    ∷ []

-- an ACC-E sample
abbrev acc_e_sample : ℕ → Line
acc_e_sample n = line (0x04 ∷ 0x0B ∷ replicate 512 0x77) n []

-- "DEN comes as two bytes ..; the others come as the 3, 6 or 512 bytes that are stored": in mode 5, which takes them all, then in
-- mode 0, which takes none (3 before 6)
abbrev wrong_lengths : List Line
wrong_lengths =
    "04 04" gets 3
    ∷ "04 04 00" gets 3
    ∷ "04 04 0000" gets 3
    ∷ "04 04 00000000" gets 3
    ∷ "04 04 000000000000" gets 3
    ∷ "04 05" gets 3
    ∷ "04 05 00" gets 3
    ∷ "04 05 000000" gets 3
    ∷ "04 05 FFFFFF" gets 3
    ∷ "04 06" gets 3
    ∷ "04 06 0000" gets 3
    ∷ "04 06 00000000" gets 3
    ∷ "04 06 000000000000" gets 3
    ∷ "04 09" gets 3
    ∷ "04 09 000000" gets 3
    ∷ "04 09 0000000000" gets 3
    ∷ "04 09 00000000000000" gets 3
    ∷ "04 0B" gets 3
    ∷ "04 0B 00" gets 3
    ∷ line (0x04 ∷ 0x0B ∷ replicate 511 0x77) 3 []
    ∷ line (0x04 ∷ 0x0B ∷ replicate 513 0x77) 3 []
    ∷ []

abbrev pub lengths : List Line
lengths =
    ("02 0A 0032 0000 0005" gets 0 ∷ wrong_lengths)
    ++ ("02 0A 0032 0000 0000" gets 0 ∷ wrong_lengths)

-- the replies in one mode to a sample of API-V, DEN, PER, TIL and ACC-E
abbrev taking : (v d p t e : ℕ) → List Line
taking v d p t e =
    "04 04 010203" gets v ∷ "04 05 0FFF" gets d ∷ "04 06 010203" gets p ∷ "04 09 010203040506" gets t ∷ acc_e_sample e ∷ []

-- "B is taken in mode 5, the others in 1 to 6": set mode 0 to 7, then 8 to 15, locked in the same modes
abbrev pub modes : List Line
modes =
    ("02 0A 0032 0000 0000" gets 0 ∷ taking 6 6 6 6 6)
    ++ ("02 0A 0032 0000 0001" gets 0 ∷ taking 0 0 0 0 6)
    ++ ("02 0A 0032 0000 0002" gets 0 ∷ taking 0 0 0 0 6)
    ++ ("02 0A 0032 0000 0003" gets 0 ∷ taking 0 0 0 0 6)
    ++ ("02 0A 0032 0000 0004" gets 0 ∷ taking 0 0 0 0 6)
    ++ ("02 0A 0032 0000 0005" gets 0 ∷ taking 0 0 0 0 0)
    ++ ("02 0A 0032 0000 0006" gets 0 ∷ taking 0 0 0 0 6)
    ++ ("02 0A 0032 0000 0007" gets 0 ∷ taking 6 6 6 6 6)
    ++ ("02 0A 0032 0000 0008" gets 0 ∷ taking 6 6 6 6 6)
    ++ ("02 0A 0032 0000 0009" gets 0 ∷ taking 0 0 0 0 6)
    ++ ("02 0A 0032 0000 000A" gets 0 ∷ taking 0 0 0 0 6)
    ++ ("02 0A 0032 0000 000B" gets 0 ∷ taking 0 0 0 0 6)
    ++ ("02 0A 0032 0000 000C" gets 0 ∷ taking 0 0 0 0 6)
    ++ ("02 0A 0032 0000 000D" gets 0 ∷ taking 0 0 0 0 0)
    ++ ("02 0A 0032 0000 000E" gets 0 ∷ taking 0 0 0 0 6)
    ++ ("02 0A 0032 0000 000F" gets 0 ∷ taking 6 6 6 6 6)

-- ---- "4: value out of range"; "A tick carries 0 to 4095 (else 4)"; "DEN .. at most 0FFF (else 4)"

abbrev pub values : List Line
values =
    "03 0000" gets 0
    ∷ "03 0FFF" gets 0
    ∷ "03 1000" gets 4
    ∷ "03 FFFF" gets 4
    ∷ "04 05 0FFF" gets 0
    ∷ "04 05 1000" gets 4
    ∷ "04 05 FFFF" gets 4
    -- other streams' bytes have no range
    ∷ "04 04 FFFFFF" gets 0
    ∷ "04 06 FFFFFF" gets 0
    ∷ "04 09 FFFFFFFFFFFF" gets 0
    -- 4 before 6
    ∷ "02 0A 0032 0000 0007" gets 0
    ∷ "04 05 1000" gets 4
    ∷ "04 05 0FFF" gets 6
    ∷ []

-- ---- "5: broadcast seconds below the last accepted"

-- seconds 600 (words 0960 to 0963), then 599, 600 again, and 0; a refused one is not the last accepted
abbrev pub late_broadcasts : List Line
late_broadcasts =
    "01 0A 0962 02BD 00 00" gets 0
    ∷ "01 0A 095F 02BD 00 00" gets 5
    ∷ "01 0B 095C 02BC 00 00" gets 5
    ∷ "01 0B 0960 02BD 00 00" gets 0
    ∷ "01 0A 0000 02BD 00 00" gets 5
    ∷ "01 0A 0963 02BD 00 00" gets 0
    ∷ "01 0A FFFF 02BD 00 00" gets 0
    ∷ "01 0A FFFB 02BD 00 00" gets 5
    ∷ "01 0A FFFC 02BD 00 00" gets 0
    ∷ []

-- ---- "8: output shorter than 126 bytes"

-- for every kind, and before 1 and 9; nothing is changed by it
abbrev pub rooms : List Line
rooms =
    "" gets 8 lent 125
    ∷ "" gets 1 lent 126
    ∷ "05 0C" gets 8 lent 125
    ∷ "05 0A" gets 8 lent 125
    ∷ "05 0A" gets 9 lent 126
    ∷ "01 0A 7080 0000 00 00" gets 8 lent 125
    ∷ "02 0A 0016 0000" gets 8 lent 0
    ∷ "02 0A 0099 0000" gets 8 lent 125
    ∷ "03 1000" gets 8 lent 125
    ∷ "04 03 00" gets 8 lent 2
    ∷ "06 0A 00 00" gets 8 lent 125
    ∷ line (0x07 ∷ replicate 58 0x11) 8 [] lent 125
    ∷ "06 0A 00 00" gives "0200" lent 126
    ∷ "02 0A 0016 0000" gets 0 lent 126
    -- housekeeping shows no broadcast, one command (on A), no error, and no frame 07
    ∷ "05 0A" from 24 shows "0001 0000 0000 0001 0000 0000 0000 00 00 00 16" lent 126
    ∷ "05 0A" gets 9 lent 126
    ∷ []

-- ---- "7: too few free queue slots"; "9: poll, queue empty"

-- "the queue has 48 slots": 48 housekeeping packets wait, or 47; 3 before 7, 4 before 7, 6 before 7
abbrev pub full_queue : List Line
full_queue =
    "05 0A" gets 9
    ∷ (times 71 ("04 05 0123" gets 0 ∷ [])
    ++ (times 47 ("02 0A 0016 0000" gets 0 ∷ [])
    ++ ("02 0B 0016 0000" gets 0
    ∷ "02 0B 0016 0000" gets 7
    ∷ "02 0B 0016 0000 00" gets 3
    ∷ "04 05 1000" gets 4
    ∷ "02 0A 0032 0000 0000" gets 0
    ∷ "04 05 0123" gets 6
    ∷ "02 0A 0032 0000 0001" gets 0
    ∷ "04 05 0123" gets 7
    ∷ "05 0A" from 0 shows "0F94 C000 0077 000A"
    ∷ "02 0B 0016 0000" gets 0
    ∷ "02 0B 0016 0000" gets 7
    ∷ "05 0B" from 0 shows "0FB4 C000 0077 001A"
    ∷ "04 05 0123" gets 0
    ∷ "02 0B 0016 0000" gets 7
    ∷ []
    ++ times 48 ("05 0A" from 4 shows "0077" ∷ [])
    ++ ("05 0A" gets 9 ∷ "05 0B" gets 9 ∷ []))))

-- ---- "Every other refusal changes nothing."

-- of some reply numbers, those with which a frame that is refused changes something
abbrev changing : List ℕ → Frame → List ℕ
changing [] f = []
changing (n ∷ ns) f =
    let rest : List ℕ = changing ns f in
    cond (changes_listed n f) (n ∷ rest) rest

-- a frame of each kind, and its numbers among 0 to 25: a broadcast's, a command's, and no others
abbrev pub changes : List (List ℕ)
changes =
    map (changing (upward 0 26))
    (broadcast cdmu_a 0 0 0 0
    ∷ command cdmu_b 0x0016 0 []
    ∷ tick 0
    ∷ sample 0x4 []
    ∷ poll cdmu_a
    ∷ status cdmu_b 0 0
    ∷ analogue []
    ∷ faulty
    ∷ [])

abbrev pub changes_said : List (List ℕ)
changes_said = (5 ∷ []) ∷ (2 ∷ 3 ∷ 4 ∷ 7 ∷ []) ∷ [] ∷ [] ∷ [] ∷ [] ∷ [] ∷ [] ∷ []
