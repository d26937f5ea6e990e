-- What an accepted frame does to the controller, a definition for each kind of frame, and what it answers.
-- Assumes nothing.
use Rattle.std.specs.Prelude.{Bool, true, false, cond, not, ◌&&◌, List, [], ◌∷◌, ◌++◌, ℕ, suc, ◌+◌, ◌*◌, ◌%◌, eqb, leb, length}
use Rattle.wire.specs.Wire.{bytes16}
use Rattle.paper.specs.Frames.{Channel, cdmu_a, cdmu_b, Frame, broadcast, command, tick, sample, poll, status, analogue, faulty}
use Rattle.paper.specs.Clock.{seconds, seconds_of, ticked, now}
use Rattle.paper.specs.Mode.{Mode, proximity, surface, number, mode_of, same, ruled, entered}
use Rattle.paper.specs.Impact.{Impact, Stamp, above, no_comparison, compared, declares, no_reading, rung, Collection, idle, running, collects}
use Rattle.paper.specs.Commands.{Request, clear, housekeeping, set_mode, Decoded, request, refusal, names, decoded}
use Rattle.paper.specs.Streams.{acc_i, hk, per_packet}
use Rattle.paper.specs.Packets.{pack, data_of, datastream, packet_id, packet_length}
use Rattle.paper.specs.Queue.{Piece, replaced, without}
use Rattle.paper.specs.Controller.{Both, at, raised, raised_at, Tallies, with_broadcasts, with_packets, with_telemetry, with_commands, with_last, Open, nothing_open, Streams, with_opened, with_queue, Controller, with_clock, with_standing, with_impact, with_tallies, with_housed, with_streams, stamp_now, queued}
use Rattle.paper.specs.Housekeeping.{housekeeping_packet}
use Rattle.paper.specs.Status.{flags_of, Shown, word_a, word_b}

-- ---- entries to a mode

-- "Entering mode 4 empties window and ring and clears the impact flag."
unfoldable pub emptied : Mode → Impact → Impact
emptied mode i =
    cond (same mode proximity)
    (record { flag = false; stamp = i.stamp; window = no_comparison; ring = no_reading; collection = i.collection }) i

-- An entry now: "it stores SSP time, altitude word and the old mode".
unfoldable pub enter : Controller → Mode → Bool → ℕ → Controller
enter c mode locked reference =
    with_impact (with_standing c (entered c.standing mode locked (now c.clock) c.clock.altitude reference)) (emptied mode c.impact)

-- ---- broadcast

-- "An accepted broadcast raises its count, stores its words (altitude bit 15 included), sets m to 0"
unfoldable pub heard : Controller → Channel → ℕ → ℕ → ℕ → ℕ → Controller
heard c cc time altitude spin phase =
    with_tallies (with_clock c (record { time = time; altitude = altitude; spin = spin; phase = phase; m = 0 }))
    (with_broadcasts c.tallies (raised_at cc c.tallies.broadcasts))

-- "then, if unlocked:" the mode rule. "At most one change per broadcast. Each change .. is an entry". "the reference second of
-- mode 5 is .. else T at entry"
unfoldable pub moved : Controller → Controller
moved c =
    let t : ℕ = seconds c.clock.time in
    let mode : Mode =
    ruled c.standing (record { t = t; altitude = c.clock.altitude; collecting = collects c.impact.collection })
    in
    cond (same mode c.standing.mode) c (enter c mode c.standing.locked t)

-- ---- tick

-- "accepted, first adds one to m"
unfoldable pub m_raised : Controller → Controller
m_raised c =
    with_clock c
    (record {
      time = c.clock.time;
      altitude = c.clock.altitude;
      spin = c.clock.spin;
      phase = c.clock.phase;
      m = ticked c.clock.m;
    })

abbrev pub in_proximity : Controller → Bool
in_proximity c = eqb (number c.standing.mode) 4

-- "The 448th further tick completes the record"
unfoldable pub last : Collection → Bool
last idle = false
last (running k) = eqb k 447

unfoldable pub completes : Controller → Bool
completes c = in_proximity c && last c.impact.collection

-- "In mode 4, locked or not, each reading enters a ring of 512 .. and is compared"
unfoldable pub with_reading : Impact → ℕ → Impact
with_reading i r =
    record {
      flag = i.flag;
      stamp = i.stamp;
      window = compared (above r) i.window;
      ring = rung r i.ring;
      collection = i.collection;
    }

-- "At three, impact is declared: flag set, SSP time kept." "From the declaration on, detection waits for the next entry to
-- mode 4": the flag says that impact has been declared since.
unfoldable pub detected : Impact → Stamp → Impact
detected i st =
    cond (not i.flag && declares i.window)
    (record { flag = true; stamp = st; window = i.window; ring = i.ring; collection = running 0 }) i

-- a further tick of a running collection, or a comparison that may declare
unfoldable pub watched : Collection → Impact → Stamp → Impact
watched idle i st = detected i st
watched (running k) i st =
    record { flag = i.flag; stamp = i.stamp; window = i.window; ring = i.ring; collection = running (suc k) }

-- the collection over
abbrev pub ended : Impact → Impact
ended i = record { flag = i.flag; stamp = i.stamp; window = i.window; ring = i.ring; collection = idle }

-- "it queues the ring, oldest first": "512 readings of 12 bits", SSP time and mode "for ACC-I at the impact tick"
unfoldable pub impact_packet : Impact → List ℕ
impact_packet i = datastream i.stamp (pack i.ring)

-- "The 448th further tick completes the record: it queues the ring, oldest first, and enters mode 5 if unlocked." "The
-- reference second of mode 5 is T at impact if the record's end caused the entry"
unfoldable pub completed : Controller → Controller
completed c =
    let i : Impact = c.impact in
    let done : Controller = queued (with_impact c (ended i)) acc_i (impact_packet i) in
    cond c.standing.locked done (enter done surface false (seconds_of i.stamp.time))

-- a reading that completes nothing
unfoldable pub watching : Controller → Controller
watching c = with_impact c (watched c.impact.collection c.impact (stamp_now c acc_i))

unfoldable pub ticks : Controller → ℕ → Controller
ticks c r =
    let d : Controller = m_raised c in
    let e : Controller = with_impact d (with_reading c.impact r) in
    cond (in_proximity c) (cond (completes c) (completed e) (watching e)) d

-- ---- sample

-- the open packet with one sample more: "SSP time (3) and mode (1) at the first sample"
unfoldable pub joined_by : Open → Stamp → List ℕ → Open
joined_by o st x = record { stamp = cond (eqb (length o.samples) 0) st o.stamp; samples = o.samples ++ (x ∷ []) }

-- the sample that makes the packet full
abbrev pub closes : Controller → ℕ → Bool
closes c s = eqb (suc (length (c.streams.opened s).samples)) (per_packet s)

-- "When full, it is .. queued", and no packet of that stream is open
unfoldable pub closed : Controller → ℕ → Open → Controller
closed c s o =
    queued (with_streams c (with_opened c.streams (replaced c.streams.opened s nothing_open))) s
    (datastream o.stamp (data_of s o.samples))

unfoldable pub kept_open : Controller → ℕ → Open → Controller
kept_open c s o = with_streams c (with_opened c.streams (replaced c.streams.opened s o))

unfoldable pub sampled : Controller → ℕ → List ℕ → Controller
sampled c s x =
    let o : Open = joined_by (c.streams.opened s) (stamp_now c s) x in
    cond (closes c s) (closed c s o) (kept_open c s o)

-- ---- command

-- "An accepted command first raises its packet count and the command count and stores the low bytes of sequence and id"
unfoldable pub noted : Controller → Channel → ℕ → ℕ → Controller
noted c cc id sequence =
    let t : Tallies = with_packets c.tallies (raised_at cc c.tallies.packets) in
    with_tallies c (with_last (with_commands t (raised c.tallies.commands)) (sequence % 256) (id % 256))

-- "0013 clear streams": "Open samples and waiting pieces of named streams go"
abbrev pub without_named : Streams → ℕ → Streams
without_named k mask =
    record {
      opened = λ s. cond (names mask s) nothing_open (k.opened s);
      counts = k.counts;
      queue = without (names mask) k.queue;
    }

-- "A running collection stays."
unfoldable pub cleared : Controller → ℕ → Controller
cleared c mask = with_streams c (without_named c.streams mask)

-- "0032 set mode, two bytes, 0 to 15: mode is the value modulo 8, locked from 8 up." "each accepted set-mode even to the same
-- mode, is an entry". "Any entry by command abandons a running collection."
unfoldable pub commanded : Controller → ℕ → Controller
commanded c value =
    enter (with_impact c (ended c.impact)) (mode_of (value % 8)) (leb 8 value) (seconds c.clock.time)

-- "then acts"
unfoldable pub obeyed : Controller → Request → Controller
obeyed c (clear mask) = cleared c mask
obeyed c housekeeping = queued c hk (housekeeping_packet c)
obeyed c (set_mode value) = commanded c value

-- ---- poll

-- "Poll output: 0F94 on A or 0FB4 on B; C000 plus that channel's telemetry count modulo 16384 ..; 0077; count times 16 plus
-- stream; 118 bytes."
unfoldable pub poll_output : Channel → Both → Piece (List ℕ) → List ℕ
poll_output cc telemetry p =
    bytes16 (packet_id cc) ++ bytes16 (0xC000 + at cc telemetry % 16384) ++ bytes16 packet_length
    ++ bytes16 (p.count * 16 + p.stream) ++ p.body

-- "the count rising afterwards"; the first piece is gone
unfoldable pub poll_answered : Controller → Channel → List (Piece (List ℕ)) → Controller
poll_answered c cc rest =
    with_tallies (with_streams c (with_queue c.streams rest)) (with_telemetry c.tallies (raised_at cc c.tallies.telemetry))

-- ---- status

abbrev pub shown_now : Controller → Shown
shown_now c = record { impact = c.impact.flag; mode = c.standing.mode; commands = c.tallies.commands }

unfoldable pub status_word : Controller → Channel → ℕ → ℕ → ℕ
status_word c cdmu_a low flags = word_a low (flags_of flags) (shown_now c)
status_word c cdmu_b low flags = word_b low (flags_of flags) (shown_now c)

-- ---- all of them

-- the controller after an accepted command
unfoldable pub performed : Controller → Decoded → Controller
performed c (request q) = obeyed c q
performed c (refusal n) = c

unfoldable pub poll_answered_from : Controller → Channel → List (Piece (List ℕ)) → Controller
poll_answered_from c cc [] = c
poll_answered_from c cc (p ∷ rest) = poll_answered c cc rest

unfoldable pub poll_output_from : Controller → Channel → List (Piece (List ℕ)) → List ℕ
poll_output_from c cc [] = []
poll_output_from c cc (p ∷ rest) = poll_output cc c.tallies.telemetry p

-- the controller after an accepted frame
unfoldable pub accepted : Controller → Frame → Controller
accepted c (broadcast cc time altitude spin phase) = moved (heard c cc time altitude spin phase)
accepted c (command cc id sequence parameters) = performed (noted c cc id sequence) (decoded id parameters)
accepted c (tick r) = ticks c r
accepted c (sample s x) = sampled c s x
accepted c (poll cc) = poll_answered_from c cc c.streams.queue
accepted c (status cc low flags) = c
accepted c (analogue bytes) = with_housed c bytes
accepted c faulty = c

-- "Accepted polls write 126 bytes, status 2, others none"
unfoldable pub answer : Controller → Frame → List ℕ
answer c (broadcast cc time altitude spin phase) = []
answer c (command cc id sequence parameters) = []
answer c (tick r) = []
answer c (sample s x) = []
answer c (poll cc) = poll_output_from c cc c.streams.queue
answer c (status cc low flags) = bytes16 (status_word c cc low flags)
answer c (analogue bytes) = []
answer c faulty = []
