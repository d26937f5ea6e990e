-- The controller that lent bytes hold, whatever they are: a number that has a greatest value or so many bits says something for
-- any bytes.
-- Assumes nothing.
use Rattle.std.specs.Prelude.{cond, List, [], ◌∷◌, ◌++◌, map, ℕ, zero, suc, ◌+◌, ◌-◌, ◌*◌, ◌/◌, ◌%◌, eqb, leb, ltb, get_or, drop}
use Rattle.wire.specs.Wire.{be16, be24, bytes16, part}
use Rattle.impact.specs.Window.{window_of}
use Rattle.packing.specs.Words.{words_of}
use Rattle.paper.specs.Frames.{Channel, cdmu_a, cdmu_b}
use Rattle.paper.specs.Clock.{Clock}
use Rattle.paper.specs.Mode.{mode_of, Standing}
use Rattle.paper.specs.Impact.{Impact, Collection, idle, running}
use Rattle.paper.specs.Streams.{Form, of_bytes, of12_bits, per_packet, width, form}
use Rattle.paper.specs.Packets.{chunks}
use Rattle.paper.specs.Queue.{Piece, piece}
use Rattle.paper.specs.Controller.{Both, Tallies, Open, nothing_open, Streams, Controller}
use Rattle.state.specs.Layout.{time_at, altitude_at, spin_at, phase_at, m_at, nibble_at, entry_time_at, old_at, entry_altitude_at, reference_at, flag_at, impact_time_at, impact_mode_at, window_at, oldest_at, further_at, commands_at, broadcasts_at, packets_at, telemetry_at, errors_at, code_at, sequence_at, id_at, first_at, waiting_at, housed_at, streams, count_at, open_at, samples_at, ring_at, slot_at}

-- ---- numbers

-- a number that goes no further than another
unfoldable pub capped : ℕ → ℕ → ℕ
capped most n = cond (ltb n most) n most

-- m, which "stays at 1023"
abbrev pub m_in : List ℕ → ℕ
m_in s = capped 1023 (be16 s m_at)

-- the mode, plus 8 if locked
abbrev pub nibble_in : List ℕ → ℕ
nibble_in s = get_or s nibble_at 0 % 16

-- the window of five comparisons, the ring's oldest place, and the collection
abbrev pub window_in : List ℕ → ℕ
window_in s = get_or s window_at 0 % 32

abbrev pub oldest_in : List ℕ → ℕ
oldest_in s = be16 s oldest_at % 512

abbrev pub further_in : List ℕ → ℕ
further_in s = capped 448 (be16 s further_at)

-- the queue's first slot, and how many pieces wait
abbrev pub first_in : List ℕ → ℕ
first_in s = get_or s first_at 0 % 48

abbrev pub waiting_in : List ℕ → ℕ
waiting_in s = capped 48 (get_or s waiting_at 0)

-- ---- the controller's parts

unfoldable pub clock_in : List ℕ → Clock
clock_in s =
    record { time = be16 s time_at; altitude = be16 s altitude_at; spin = get_or s spin_at 0; phase = get_or s phase_at 0; m = m_in s }

unfoldable pub standing_in : List ℕ → Standing
standing_in s =
    record {
      mode = mode_of (nibble_in s % 8);
      locked = leb 8 (nibble_in s);
      entry = record { time = be24 s entry_time_at; altitude = be16 s entry_altitude_at; old = get_or s old_at 0 };
      reference = be16 s reference_at;
    }

abbrev pub collection_of : ℕ → Collection
collection_of zero = idle
collection_of (suc k) = running k

-- the readings from the oldest place to the ring's end, then from its start
unfoldable pub ring_from : List ℕ → ℕ → List ℕ
ring_from s place = words_of s (ring_at + 2 * place) (512 - place) ++ words_of s ring_at place

unfoldable pub impact_in : List ℕ → Impact
impact_in s =
    record {
      flag = eqb (get_or s flag_at 0) 1;
      stamp = record { time = be24 s impact_time_at; mode = get_or s impact_mode_at 0 };
      window = window_of (window_in s);
      ring = ring_from s (oldest_in s);
      collection = collection_of (further_in s);
    }

abbrev pub both_in : List ℕ → (Channel → ℕ) → Both
both_in s at = record { a = be16 s (at cdmu_a); b = be16 s (at cdmu_b) }

unfoldable pub tallies_in : List ℕ → Tallies
tallies_in s =
    record {
      broadcasts = both_in s broadcasts_at;
      packets = both_in s packets_at;
      telemetry = both_in s telemetry_at;
      commands = be16 s commands_at;
      errors = get_or s errors_at 0;
      code = get_or s code_at 0;
      sequence = get_or s sequence_at 0;
      id = get_or s id_at 0;
    }

-- of a value of 12 bits, which comes as two bytes, twelve bits count
abbrev pub twelve : List ℕ → List ℕ
twelve x = bytes16 (be16 x 0 % 4096)

abbrev pub by_form : Form → List (List ℕ) → List (List ℕ)
by_form of_bytes xs = xs
by_form of12_bits xs = map twelve xs

-- n samples of stream t, as they came
unfoldable pub samples_in : List ℕ → ℕ → ℕ → List (List ℕ)
samples_in s t n = by_form (form t) (chunks (width t) n (drop (samples_at t) s))

-- the open packet of stream t, which has n samples
abbrev pub open_of : List ℕ → ℕ → ℕ → Open
open_of s t zero = nothing_open
open_of s t (suc n) =
    record {
      stamp = record { time = be24 s (open_at t + 1); mode = get_or s (open_at t + 4) 0 };
      samples = samples_in s t (suc n);
    }

-- how many it has: the number that is kept, and 0 where that is more than an open packet can have
unfoldable pub held_in : List ℕ → ℕ → ℕ
held_in s t = cond (ltb (get_or s (open_at t) 0) (per_packet t)) (get_or s (open_at t) 0) 0

unfoldable pub open_in : List ℕ → ℕ → Open
open_in s t = open_of s t (held_in s t)

-- "modulo 4096": the count that the next piece of stream t takes
unfoldable pub count_in : List ℕ → ℕ → ℕ
count_in s t = cond (ltb t streams) (be16 s (count_at t) % 4096) 0

abbrev pub piece_in : List ℕ → ℕ → Piece (List ℕ)
piece_in s i = piece (be16 s (slot_at i) % 16) (be16 s (slot_at i) / 16) (part s (slot_at i + 2) 118)

-- n pieces from slot i on, past the last slot from slot 0
unfoldable pub pieces_in : List ℕ → ℕ → ℕ → List (Piece (List ℕ))
pieces_in s i zero = []
pieces_in s i (suc n) = piece_in s (i % 48) ∷ pieces_in s (i + 1) n

abbrev pub streams_in : List ℕ → Streams
streams_in s = record { opened = open_in s; counts = count_in s; queue = pieces_in s (first_in s) (waiting_in s) }

unfoldable pub view : List ℕ → Controller
view s =
    record {
      clock = clock_in s;
      standing = standing_in s;
      impact = impact_in s;
      tallies = tallies_in s;
      housed = part s housed_at 58;
      streams = streams_in s;
    }
