-- Where each number of the controller stands in its lent bytes. docs/STATE.md lists the same offsets.
-- Assumes nothing.
use Rattle.std.specs.Prelude.{Bool, ℕ, ◌+◌, ◌*◌, ltb}
use Rattle.paper.specs.Frames.{Channel, cdmu_a, cdmu_b}
use Rattle.paper.specs.Streams.{per_packet}

-- the mark in front, two bytes: the letters SC
abbrev pub controller_mark : ℕ
controller_mark = 0x5343

-- the last accepted broadcast's words, and m
abbrev pub time_at : ℕ
time_at = 2

abbrev pub altitude_at : ℕ
altitude_at = 4

abbrev pub spin_at : ℕ
spin_at = 6

abbrev pub phase_at : ℕ
phase_at = 7

abbrev pub m_at : ℕ
m_at = 8

-- the mode (plus 8 if locked), the last entry, the reference second
abbrev pub nibble_at : ℕ
nibble_at = 10

abbrev pub entry_time_at : ℕ
entry_time_at = 11

abbrev pub old_at : ℕ
old_at = 14

abbrev pub entry_altitude_at : ℕ
entry_altitude_at = 15

abbrev pub reference_at : ℕ
reference_at = 17

-- impact: flag, SSP time and mode byte at the impact tick, the window, the ring's oldest place, the collection (0: none; else one
-- more than its further ticks)
abbrev pub flag_at : ℕ
flag_at = 19

abbrev pub impact_time_at : ℕ
impact_time_at = 20

abbrev pub impact_mode_at : ℕ
impact_mode_at = 23

abbrev pub window_at : ℕ
window_at = 24

abbrev pub oldest_at : ℕ
oldest_at = 25

abbrev pub further_at : ℕ
further_at = 27

-- counts, and the last command: in housekeeping's order
abbrev pub commands_at : ℕ
commands_at = 29

-- a count for each channel: A's, and B's behind it
abbrev pub for_channel : ℕ → Channel → ℕ
for_channel at cdmu_a = at
for_channel at cdmu_b = at + 2

abbrev pub broadcasts_at : Channel → ℕ
broadcasts_at = for_channel 31

abbrev pub packets_at : Channel → ℕ
packets_at = for_channel 35

abbrev pub telemetry_at : Channel → ℕ
telemetry_at = for_channel 39

abbrev pub errors_at : ℕ
errors_at = 43

abbrev pub code_at : ℕ
code_at = 44

abbrev pub sequence_at : ℕ
sequence_at = 45

abbrev pub id_at : ℕ
id_at = 46

-- the queue: its first slot, and how many pieces wait
abbrev pub first_at : ℕ
first_at = 47

abbrev pub waiting_at : ℕ
waiting_at = 48

-- the 58 bytes of the last frame 07
abbrev pub housed_at : ℕ
housed_at = 49

-- For each stream below 12: pieces ever queued, modulo 65536 (two bytes), and its open packet (150 bytes: the number of samples,
-- SSP time, mode byte, samples).
abbrev pub streams : ℕ
streams = 12

abbrev pub count_at : ℕ → ℕ
count_at t = 107 + 2 * t

abbrev pub open_at : ℕ → ℕ
open_at t = 131 + 150 * t

abbrev pub samples_at : ℕ → ℕ
samples_at t = open_at t + 5

-- streams whose packets stay open: those of more than one sample
abbrev pub stays_open : ℕ → Bool
stays_open t = ltb 1 (per_packet t)

-- the ring of 512 readings of two bytes
abbrev pub ring_at : ℕ
ring_at = 1931

-- 48 slots of 120 bytes: count times 16 plus stream, and 118 bytes
abbrev pub slots_at : ℕ
slots_at = 2955

abbrev pub slot_at : ℕ → ℕ
slot_at i = slots_at + 120 * i

-- all of it
abbrev pub state_bytes : ℕ
state_bytes = 8715
