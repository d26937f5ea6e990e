-- What a run's history holds: its frames and the replies to them, the numbers that the counts stand for, counted from frames and
-- replies alone, and the datastream packets that were queued, with the number of their pieces.
-- Assumes nothing.
use Rattle.std.specs.Prelude.{Bool, true, false, cond, ◌&&◌, ◌||◌, List, [], ◌∷◌, ◌++◌, ◌≡◌, ℕ, ◌+◌, ◌%◌, eqb, drop}
use Rattle.paper.specs.Frames.{Channel, cdmu_a, cdmu_b, Frame, broadcast, command, tick, sample, poll, status, analogue, faulty, frame_of}
use Rattle.paper.specs.Commands.{clear, housekeeping, set_mode, Decoded, request, refusal, names, decoded}
use Rattle.paper.specs.Streams.{acc_i, hk, pieces}
use Rattle.paper.specs.Packets.{data_of, datastream, cut}
use Rattle.paper.specs.Queue.{Piece, numbered, after, replaced, without}
use Rattle.paper.specs.Controller.{at, Open, Controller, stamp_now}
use Rattle.paper.specs.Housekeeping.{housekeeping_packet}
use Rattle.paper.specs.Acts.{completes, with_reading, impact_packet, joined_by, closes, noted}
use Rattle.paper.specs.Step.{queues, is_error, Count, of_broadcasts, of_commands, of_polls, of_none, count_of, Outcome, step}
use Rattle.paper.specs.Runs.{Call}

-- each call's frame and the reply to it, in order
unfoldable pub history : Controller → List Call → List (Frame × ℕ)
history c [] = []
history c (x ∷ xs) =
    let o : Outcome = step c x.bytes x.room in
    (frame_of x.bytes, o.reply) ∷ history o.next xs

-- how many pass a test of whose count they raise, and of the reply
abbrev pub how_many : (Count → ℕ → Bool) → List (Frame × ℕ) → ℕ
how_many test [] = 0
how_many test (h ∷ hs) = cond (test (count_of h.0) h.1) 1 0 + how_many test hs

-- ---- whose frame it is

abbrev pub same_channel : Channel → Channel → Bool
same_channel cdmu_a cdmu_a = true
same_channel cdmu_a cdmu_b = false
same_channel cdmu_b cdmu_a = false
same_channel cdmu_b cdmu_b = true

abbrev pub broadcast_on : Channel → Count → Bool
broadcast_on cc (of_broadcasts dd) = same_channel cc dd
broadcast_on cc (of_commands dd) = false
broadcast_on cc (of_polls dd) = false
broadcast_on cc of_none = false

abbrev pub command_on : Channel → Count → Bool
command_on cc (of_broadcasts dd) = false
command_on cc (of_commands dd) = same_channel cc dd
command_on cc (of_polls dd) = false
command_on cc of_none = false

-- on either channel
abbrev pub is_command : Count → Bool
is_command k = command_on cdmu_a k || command_on cdmu_b k

abbrev pub poll_on : Channel → Count → Bool
poll_on cc (of_broadcasts dd) = false
poll_on cc (of_commands dd) = false
poll_on cc (of_polls dd) = same_channel cc dd
poll_on cc of_none = false

-- ---- the numbers of a history

abbrev pub is_accepted : ℕ → Bool
is_accepted n = eqb n 0

-- "An accepted broadcast raises its count"; "A broadcast refused with 5 raises only its channel's broadcast count."
abbrev pub raises_broadcasts : Channel → Count → ℕ → Bool
raises_broadcasts cc k n = broadcast_on cc k && (is_accepted n || eqb n 5)

-- "An accepted command first raises its packet count"; "A command refused with 2, 3, 4 or 7 raises its channel's command packet
-- count"
abbrev pub raises_packets : Channel → Count → ℕ → Bool
raises_packets cc k n = command_on cc k && (is_accepted n || is_error n)

-- "An accepted command first raises .. the command count"
abbrev pub raises_commands : Count → ℕ → Bool
raises_commands k n = is_command k && is_accepted n

-- "that channel's telemetry count .., the count rising afterwards": polls made
abbrev pub raises_telemetry : Channel → Count → ℕ → Bool
raises_telemetry cc k n = poll_on cc k && is_accepted n

-- "A command refused with 2, 3, 4 or 7 raises .. the error count"
abbrev pub raises_errors : Count → ℕ → Bool
raises_errors k n = is_command k && is_error n

abbrev pub broadcasts_on : Channel → List (Frame × ℕ) → ℕ
broadcasts_on cc = how_many (raises_broadcasts cc)

abbrev pub packets_on : Channel → List (Frame × ℕ) → ℕ
packets_on cc = how_many (raises_packets cc)

abbrev pub commands_in : List (Frame × ℕ) → ℕ
commands_in = how_many raises_commands

abbrev pub polls_on : Channel → List (Frame × ℕ) → ℕ
polls_on cc = how_many (raises_telemetry cc)

abbrev pub errors_in : List (Frame × ℕ) → ℕ
errors_in = how_many raises_errors

-- ---- the packets that were queued

-- The sample with which an open packet is full closes it: its datastream packet.
unfoldable pub full_packet : Controller → ℕ → List ℕ → List ℕ
full_packet c s x =
    let o : Open = joined_by (c.streams.opened s) (stamp_now c s) x in
    datastream o.stamp (data_of s o.samples)

abbrev pub only_if : Bool → ℕ × List ℕ → List (ℕ × List ℕ)
only_if b p = cond b (p ∷ []) []

-- The datastream packets that an accepted frame queues, each with its stream, before it is filled and cut: "0016 send
-- housekeeping"; "The 448th further tick completes the record: it queues the ring"; "When full, it is .. queued".
unfoldable pub sent : Controller → Frame → List (ℕ × List ℕ)
sent c (broadcast cc time altitude spin phase) = []
sent c (command cc id sequence parameters) =
    only_if (queues (decoded id parameters)) (hk, housekeeping_packet (noted c cc id sequence))
sent c (tick r) = only_if (completes c) (acc_i, impact_packet (with_reading c.impact r))
sent c (sample s x) = only_if (closes c s) (s, full_packet c s x)
sent c (poll cc) = []
sent c (status cc low flags) = []
sent c (analogue bytes) = []
sent c faulty = []

-- those of one call: a refused one queues none
unfoldable pub sent_at : Controller → Call → List (ℕ × List ℕ)
sent_at c x = cond (is_accepted (step c x.bytes x.room).reply) (sent c (frame_of x.bytes)) []

-- those of a run, in order
unfoldable pub sent_by : Controller → List Call → List (ℕ × List ℕ)
sent_by c [] = []
sent_by c (x ∷ xs) = sent_at c x ++ sent_by (step c x.bytes x.room).next xs

-- the pieces of stream t among them, by the packets' streams alone
abbrev pub pieces_of : ℕ → List (ℕ × List ℕ) → ℕ
pieces_of t [] = 0
pieces_of t (p ∷ ps) = cond (eqb p.0 t) (pieces t) 0 + pieces_of t ps

-- ---- "All counts of 16 bits go from 65535 to 0 on purpose; the error count is 8 bits and wraps too"

-- The counts that c holds are the numbers of the history h and of the queued packets ps.
pub record Counted (c : Controller) (h : List (Frame × ℕ)) (ps : List (ℕ × List ℕ)) : Type 0 where
  pub broadcasts : (cc : Channel) → at cc c.tallies.broadcasts ≡ broadcasts_on cc h % 65536
  pub packets : (cc : Channel) → at cc c.tallies.packets ≡ packets_on cc h % 65536
  pub telemetry : (cc : Channel) → at cc c.tallies.telemetry ≡ polls_on cc h % 65536
  pub commands : c.tallies.commands ≡ commands_in h % 65536
  pub errors : c.tallies.errors ≡ errors_in h % 256
  pub streams : (t : ℕ) → c.streams.counts t ≡ pieces_of t ps % 4096

-- ---- what they do to queue and counts: an accepted frame queues, then takes

-- "Each piece takes its stream's count when queued": the pieces of packets that are queued one after the other, numbered from the
-- streams' counts on, and the counts that follow. How a number goes on is a parameter, as it is of `numbered`.
unfoldable pub counts_after : (ℕ → ℕ) → (ℕ → ℕ) → List (ℕ × List ℕ) → ℕ → ℕ
counts_after on counts [] = counts
counts_after on counts (p ∷ ps) =
    let s : ℕ = p.0 in
    counts_after on (replaced counts s (after on (counts s) (cut (pieces s) p.1))) ps

unfoldable pub numbered_all : (ℕ → ℕ) → (ℕ → ℕ) → List (ℕ × List ℕ) → List (Piece (List ℕ))
numbered_all on counts [] = []
numbered_all on counts (p ∷ ps) =
    let s : ℕ = p.0 in
    numbered on s (counts s) (cut (pieces s) p.1)
    ++ numbered_all on (replaced counts s (after on (counts s) (cut (pieces s) p.1))) ps

-- What an accepted frame takes of the pieces that wait, its own among them: none; the first, by a poll; "waiting pieces of named
-- streams go".
pub data Takes : Type 0 where
  nothing : Takes
  the_first : Takes
  named : ℕ → Takes

abbrev pub command_takes : Decoded → Takes
command_takes (request (clear mask)) = named mask
command_takes (request housekeeping) = nothing
command_takes (request (set_mode value)) = nothing
command_takes (refusal n) = nothing

abbrev pub takes : Frame → Takes
takes (broadcast cc time altitude spin phase) = nothing
takes (command cc id sequence parameters) = command_takes (decoded id parameters)
takes (tick r) = nothing
takes (sample s x) = nothing
takes (poll cc) = the_first
takes (status cc low flags) = nothing
takes (analogue bytes) = nothing
takes faulty = nothing

-- what it leaves of them
abbrev pub leaves : Takes → List (Piece (List ℕ)) → List (Piece (List ℕ))
leaves nothing q = q
leaves the_first q = drop 1 q
leaves (named mask) q = without (names mask) q

-- what one call takes: a refused one, nothing
unfoldable pub takes_at : Controller → Call → Takes
takes_at c x = cond (is_accepted (step c x.bytes x.room).reply) (takes (frame_of x.bytes)) nothing
