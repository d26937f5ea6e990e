-- Demand 1: "Every call ends properly for every frame, packet and buffer it could be handed. Entry points judge for themselves (no
-- `requires`); each refusal has one number, given exactly when document 01 says, and changes only what is listed there."
--
-- That a call ends, for any arguments, is proved with each entry's contract, which asks for nothing. A contract is an equation with
-- one of these functions: `start_of` and `step_of` of the controller, `start_of` and `read_of` of the reader. What those say of refusals
-- is said here, for any bytes s, frame or packet f and output o. (`Bytes` and `Framed`: frames are of bytes, as Lib says.)
-- Assumes nothing.
use Rattle.std.specs.Prelude.{◌≡◌, true, false, cond, List, [], ◌⊎◌, ℕ, ◌/◌, ◌%◌, ◌≤◌, ◌<◌, length, drop}
use Rattle.wire.specs.Wire.{be16, Bytes}
use Rattle.paper.specs.Frames.{Channel, broadcast, command, frame_of}
use Rattle.paper.specs.Streams.{pieces, listed}
use Rattle.paper.specs.Queue.{replaced}
use Rattle.paper.specs.Controller.{Controller, start}
use Rattle.paper.specs.Step.{Lent, unfit, holds, reply, is_error, late_heard, erred, changes_listed}
use Rattle.paper.specs.Reader.{Track, distance, placed, Reader, reader_start, reader_step}
use Rattle.state.specs.Layout.{state_bytes}
use Rattle.state.specs.View.{view}
use Rattle.state.specs.Range.{fit}
use Rattle.lent.specs.Told.{Told, told, res}
use Rattle.lent.specs.Calls.{Framed}
use Rattle.machine.specs.Called.{step_of, start_of}
use Rattle.machine.specs.Runs.{run_of}
use Rattle.shelf.specs.Layout.{reader_bytes}
use Rattle.shelf.specs.View.{reader_in}
use Rattle.shelf.specs.Range.{fit as fit_reader}
use Rattle.shelf.specs.Fresh.{start_of as start_reader}
use Rattle.shelf.specs.Received.{read_of}
use Rattle.shelf.specs.Runs.{reads_of}

-- what a call of the controller finds in its bytes
abbrev pub found : List ℕ → Lent Controller
found s = cond (fit s) (holds (view s)) unfit

-- "Starting looks at the buffer's length alone: it replies 0 with a fresh state, later bytes staying, or 10 (the reader 25) with
-- nothing changed."
pub record Starts (X : Type 0) (begin : List ℕ → Told) (least refusal : ℕ) (held : List ℕ → X) (fresh : X) : Type 0 where
  pub enough : (s : List ℕ) → least ≤ length s
      → ((begin s).reply ≡ 0) × (held (begin s).state ≡ fresh) × (drop least (begin s).state ≡ drop least s)
  pub short : (s : List ℕ) → length s < least → begin s ≡ told refusal s

-- "Tested in the order 10, 8, 1, 2, 3, 4, 5, 6, 7, 9; the first that applies is given." "No refusal touches the output." "A broadcast
-- refused with 5 raises only its channel's broadcast count. A command refused with 2, 3, 4 or 7 raises its channel's command packet
-- count and the error count and sets the error code to the reply number. Every other refusal changes nothing." "10 never meets a
-- state made by starting and later calls."
pub record Judges : Type 0 where
  pub number : (s f o : List ℕ) → (step_of s f o).reply ≡ reply (found s) (frame_of f) (length o)
  pub silent : (s f o : List ℕ) → ((step_of s f o).reply ≡ 0 → ⊥) → (step_of s f o).out ≡ o
  pub late : (s f o : List ℕ) (cc : Channel) (time altitude spin phase : ℕ) → frame_of f ≡ broadcast cc time altitude spin phase
      → (step_of s f o).reply ≡ 5 → view (step_of s f o).state ≡ late_heard (view s) cc
  pub error : (s f o : List ℕ) (cc : Channel) (id sequence : ℕ) (parameters : List ℕ) → frame_of f ≡ command cc id sequence parameters
      → is_error (step_of s f o).reply ≡ true → view (step_of s f o).state ≡ erred (view s) cc (step_of s f o).reply
  pub nothing_else : (s f o : List ℕ) → ((step_of s f o).reply ≡ 0 → ⊥) → changes_listed (step_of s f o).reply (frame_of f) ≡ false
      → (step_of s f o).state ≡ s
  pub later_bytes : (s f o : List ℕ) → drop state_bytes (step_of s f o).state ≡ drop state_bytes s
  pub never_10 : (s : List ℕ) → state_bytes ≤ length s → (xs : List (List ℕ × List ℕ)) → Framed xs
      → fit (run_of (start_of s).state xs) ≡ true

-- "count times 16 plus stream": what a packet's bytes say
abbrev pub packet_stream : List ℕ → ℕ
packet_stream f = be16 f 6 % 16

abbrev pub packet_count : List ℕ → ℕ
packet_count f = be16 f 6 / 16

-- a stream's record, of k pieces, that has moved on to a count, with no gathering
abbrev pub record_moved_on : ℕ → Track (List ℕ) → ℕ → Track (List ℕ)
record_moved_on k t count =
    record { last = count; place = placed k t.place (distance t.last count); running = false; gathered = [] }

-- "Order 25, 24, 20, 21, 22, 23. Only 23 changes state; no refusal writes output, and bytes past what is handed out stay." "25 lent
-- state unfit, as 10" "23 finished but opening, closing or fill bytes are wrong (record moved on, gathering empty)"
--
-- A call leaves bytes that hold the reader that document 01's is left with (`leaves`). After 23 that is the one before with the record of
-- the packet's stream moved on, every other stream's as it was (`moved_on_lem`).
pub record Receives : Type 0 where
  pub unfit : (s f o : List ℕ) → fit_reader s ≡ false → read_of s f o ≡ res 25 o s
  pub number : (s f o : List ℕ) → fit_reader s ≡ true → (read_of s f o).reply ≡ (reader_step (reader_in s) f (length o)).reply
  pub silent : (s f o : List ℕ) → ((read_of s f o).out ≡ o) ⊎ ((read_of s f o).reply ≡ 1)
  pub only_23 : (s f o : List ℕ)
      → ((read_of s f o).state ≡ s) ⊎ (((read_of s f o).reply ≡ 0) ⊎ (((read_of s f o).reply ≡ 1) ⊎ ((read_of s f o).reply ≡ 23)))
  pub handed_past : (s f o : List ℕ) → (read_of s f o).reply ≡ 1
      → drop (listed (packet_stream f)) (read_of s f o).out ≡ drop (listed (packet_stream f)) o
  pub later_bytes : (s f o : List ℕ) → drop reader_bytes (read_of s f o).state ≡ drop reader_bytes s
  pub leaves : (s f o : List ℕ) → fit_reader s ≡ true → Bytes f
      → reader_in (read_of s f o).state ≡ (reader_step (reader_in s) f (length o)).next
  pub moved_on_lem : (s f o : List ℕ) → Bytes f → (read_of s f o).reply ≡ 23
      → let t : ℕ = packet_stream f in
      reader_in (read_of s f o).state ≡ replaced (reader_in s) t (record_moved_on (pieces t) (reader_in s t) (packet_count f))
  pub never_25 : (s : List ℕ) → reader_bytes ≤ length s → (xs : List (List ℕ × List ℕ)) → Framed xs
      → fit_reader (reads_of (start_reader s).state xs) ≡ true

-- Ours, of 10 and 25: bytes that one machine's calls take are refused by the other's.
pub record Apart : Type 0 where
  pub controllers : (s f o : List ℕ) → fit s ≡ true → read_of s f o ≡ res 25 o s
  pub readers : (s f o : List ℕ) → fit_reader s ≡ true → step_of s f o ≡ res 10 o s

pub record Demand1 : Type 0 where
  pub starts : Starts Controller start_of state_bytes 10 view start
  pub judges : Judges
  pub reader-starts : Starts Reader start_reader reader_bytes 25 reader_in reader_start
  pub receives : Receives
  pub apart : Apart
