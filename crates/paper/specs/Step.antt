-- Document 01, "What the controller replies": when each reply is given, in which order they are tested, what each refusal
-- changes, and one call of the controller.
-- Assumes nothing.
use Rattle.std.specs.Prelude.{Bool, true, false, cond, not, ◌&&◌, ◌||◌, List, [], ◌∷◌, ℕ, eqb, ltb, length}
use Rattle.wire.specs.Wire.{be16}
use Rattle.paper.specs.Frames.{Channel, Frame, broadcast, command, tick, sample, poll, status, analogue, faulty, frame_of}
use Rattle.paper.specs.Clock.{seconds}
use Rattle.paper.specs.Commands.{clear, housekeeping, set_mode, Decoded, request, refusal, decoded, refused_with}
use Rattle.paper.specs.Streams.{acc_i, hk, Form, of_bytes, of12_bits, pieces, width, form, has_samples, taken_in}
use Rattle.paper.specs.Packets.{packet_size}
use Rattle.paper.specs.Queue.{free}
use Rattle.paper.specs.Controller.{raised_at, raised8, Tallies, with_broadcasts, with_packets, with_error, Controller, with_tallies}
use Rattle.paper.specs.Acts.{completes, closes, accepted, answer}

-- ---- when each reply is given

-- "7: too few free queue slots"
abbrev pub crowded : Controller → ℕ → Bool
crowded c s = ltb (free c.streams.queue) (pieces s)

abbrev pub queues : Decoded → Bool
queues (request (clear mask)) = false
queues (request housekeeping) = true
queues (request (set_mode value)) = false
queues (refusal n) = false

-- "DEN comes as two bytes, at most 0FFF (else 4)"
abbrev pub too_great : Form → List ℕ → Bool
too_great of_bytes x = false
too_great of12_bits x = ltb 0x0FFF (be16 x 0)

-- The grounds on which each kind of frame is refused: the reply's number, and whether it applies.
-- "1: empty, unknown kind or channel, or wrong size above"; "2: command id or stream not carried"; "3: wrong parameter or sample
-- length"; "4: value out of range"; "5: broadcast seconds below the last accepted"; "6: sample not taken in this mode"; "7: too
-- few free queue slots"; "9: poll, queue empty"
abbrev pub grounds : Controller → Frame → List (ℕ × Bool)
grounds c (broadcast cc time altitude spin phase) = (5, ltb (seconds time) (seconds c.clock.time)) ∷ []
-- Housekeeping queues a packet.
grounds c (command cc id sequence parameters) =
    (2, eqb (refused_with (decoded id parameters)) 2)
    ∷ (3, eqb (refused_with (decoded id parameters)) 3)
    ∷ (4, eqb (refused_with (decoded id parameters)) 4)
    ∷ (7, queues (decoded id parameters) && crowded c hk)
    ∷ []
-- "A tick carries 0 to 4095 (else 4)"; a tick that completes a record: "If seven slots are not free that tick is refused with 7"
grounds c (tick r) = (4, ltb 4095 r) ∷ (7, completes c && crowded c acc_i) ∷ []
-- "Sample frames exist for 4, 5, 6, 9 and B; any other stream in one gets 2."; "A closing sample without room gets 7 and isn't kept."
grounds c (sample s x) =
    (2, not (has_samples s))
    ∷ (3, not (eqb (length x) (width s)))
    ∷ (4, too_great (form s) x)
    ∷ (6, not (taken_in s c.standing.mode))
    ∷ (7, closes c s && crowded c s)
    ∷ []
grounds c (poll cc) = (9, eqb (length c.streams.queue) 0) ∷ []
grounds c (status cc low flags) = []
grounds c (analogue bytes) = []
grounds c faulty = (1, true) ∷ []

-- What a call finds in the lent bytes: "10: state buffer shorter than the length docs/ names .., or a number kept in it outside
-- its range", or a controller.
pub data Lent (X : Type 0) : Type 0 where
  unfit : Lent X
  holds : X → Lent X

abbrev pub is_unfit : {X : Type 0} → Lent X → Bool
is_unfit unfit = true
is_unfit (holds x) = false

-- where no controller is held, there is none to ask
abbrev pub grounds_in : Lent Controller → Frame → List (ℕ × Bool)
grounds_in unfit f = []
grounds_in (holds c) f = grounds c f

-- all grounds of a call: those of any frame, "8: output shorter than 126 bytes" among them, and its own
abbrev pub tests : Lent Controller → Frame → ℕ → List (ℕ × Bool)
tests l f room = (10, is_unfit l) ∷ (8, ltb room packet_size) ∷ grounds_in l f

-- ---- the order

-- "Tested in the order 10, 8, 1, 2, 3, 4, 5, 6, 7, 9"
abbrev pub order : List ℕ
order = 10 ∷ 8 ∷ 1 ∷ 2 ∷ 3 ∷ 4 ∷ 5 ∷ 6 ∷ 7 ∷ 9 ∷ []

-- whether the ground with this number applies; one that is not listed does not
abbrev pub applies : List (ℕ × Bool) → ℕ → Bool
applies [] n = false
applies (g ∷ gs) n = cond (eqb g.0 n) g.1 (applies gs n)

-- "the first that applies is given", 0 where none does
abbrev pub first : List ℕ → List (ℕ × Bool) → ℕ
first [] gs = 0
first (n ∷ ns) gs = cond (applies gs n) n (first ns gs)

unfoldable pub reply : Lent Controller → Frame → ℕ → ℕ
reply l f room = first order (tests l f room)

-- ---- what a refusal changes

-- "A broadcast refused with 5 raises only its channel's broadcast count."
unfoldable pub late_heard : Controller → Channel → Controller
late_heard c cc = with_tallies c (with_broadcasts c.tallies (raised_at cc c.tallies.broadcasts))

-- "A command refused with 2, 3, 4 or 7 raises its channel's command packet count and the error count and sets the error code
-- to the reply number."
unfoldable pub erred : Controller → Channel → ℕ → Controller
erred c cc n =
    let t : Tallies = with_packets c.tallies (raised_at cc c.tallies.packets) in
    with_tallies c (with_error t (raised8 c.tallies.errors) n)

abbrev pub is_error : ℕ → Bool
is_error n = eqb n 2 || (eqb n 3 || (eqb n 4 || eqb n 7))

-- Whose count a frame raises, and on which channel: that of broadcasts, of commands, of polls, or none.
pub data Count : Type 0 where
  of_broadcasts : Channel → Count
  of_commands : Channel → Count
  of_polls : Channel → Count
  of_none : Count

abbrev pub count_of : Frame → Count
count_of (broadcast cc time altitude spin phase) = of_broadcasts cc
count_of (command cc id sequence parameters) = of_commands cc
count_of (tick r) = of_none
count_of (sample s x) = of_none
count_of (poll cc) = of_polls cc
count_of (status cc low flags) = of_none
count_of (analogue bytes) = of_none
count_of faulty = of_none

-- what a frame refused with n changes: one of the two, or nothing
pub data Change : Type 0 where
  unchanged : Change
  late_on : Channel → Change
  error_on : Channel → ℕ → Change

abbrev pub change : ℕ → Count → Change
change n (of_broadcasts cc) = cond (eqb n 5) (late_on cc) unchanged
change n (of_commands cc) = cond (is_error n) (error_on cc n) unchanged
change n (of_polls cc) = unchanged
change n of_none = unchanged

abbrev pub changed : Change → Controller → Controller
changed unchanged c = c
changed (late_on cc) c = late_heard c cc
changed (error_on cc n) c = erred c cc n

abbrev pub is_listed : Change → Bool
is_listed unchanged = false
is_listed (late_on cc) = true
is_listed (error_on cc n) = true

-- "Every other refusal changes nothing."
unfoldable pub refused : ℕ → Frame → Controller → Controller
refused n f c = changed (change n (count_of f)) c

-- the refusals for which document 01 lists a change
abbrev pub changes_listed : ℕ → Frame → Bool
changes_listed n f = is_listed (change n (count_of f))

-- ---- one call

-- The reply, the bytes written at the front of the output ("later output bytes stay"), and what is held afterwards.
pub record Outcome : Type 0 where
  pub reply : ℕ
  pub out : List ℕ
  pub next : Controller

abbrev pub outcome : ℕ → List ℕ → Controller → Outcome
outcome n o c = record { reply = n; out = o; next = c }

-- "No refusal touches the output."
unfoldable pub replied : ℕ → Frame → Controller → Outcome
replied n f c = cond (eqb n 0) (outcome 0 (answer c f) (accepted c f)) (outcome n [] (refused n f c))

-- a frame's bytes, for a controller, with an output of so many bytes
unfoldable pub step : Controller → List ℕ → ℕ → Outcome
step c bytes room = replied (reply (holds c) (frame_of bytes) room) (frame_of bytes) c
