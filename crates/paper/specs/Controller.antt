-- The controller of document 01: what it keeps, and what it holds when fresh.
-- Assumes nothing.
use Rattle.std.specs.Prelude.{false, List, [], ◌++◌, ℕ, ◌+◌, ◌%◌, replicate}
use Rattle.paper.specs.Frames.{Channel, cdmu_a, cdmu_b}
use Rattle.paper.specs.Clock.{Clock, now}
use Rattle.paper.specs.Mode.{Standing, upper, nibble}
use Rattle.paper.specs.Impact.{Impact, Stamp, no_comparison, no_reading, idle}
use Rattle.paper.specs.Streams.{pieces}
use Rattle.paper.specs.Packets.{mode_byte, cut}
use Rattle.paper.specs.Queue.{Piece, wrap, numbered, after, replaced}

-- a count for each channel
pub record Both : Type 0 where
  pub a : ℕ
  pub b : ℕ

abbrev pub at : Channel → Both → ℕ
at cdmu_a n = n.a
at cdmu_b n = n.b

-- "All counts of 16 bits go from 65535 to 0 on purpose; the error count is 8 bits and wraps too."
abbrev pub raised : ℕ → ℕ
raised n = (n + 1) % 65536

abbrev pub raised8 : ℕ → ℕ
raised8 n = (n + 1) % 256

abbrev pub raised_at : Channel → Both → Both
raised_at cdmu_a n = record { a = raised n.a; b = n.b }
raised_at cdmu_b n = record { a = n.a; b = raised n.b }

-- the counts, the error code, and the low bytes of the last accepted command's sequence and id
pub record Tallies : Type 0 where
  pub broadcasts : Both
  pub packets : Both
  pub telemetry : Both
  pub commands : ℕ
  pub errors : ℕ
  pub code : ℕ
  pub sequence : ℕ
  pub id : ℕ

-- one of them changed, the others as they were; error count and code, and sequence and id, change together
abbrev pub with_broadcasts : Tallies → Both → Tallies
with_broadcasts t x =
    record {
      broadcasts = x;
      packets = t.packets;
      telemetry = t.telemetry;
      commands = t.commands;
      errors = t.errors;
      code = t.code;
      sequence = t.sequence;
      id = t.id;
    }

abbrev pub with_packets : Tallies → Both → Tallies
with_packets t x =
    record {
      broadcasts = t.broadcasts;
      packets = x;
      telemetry = t.telemetry;
      commands = t.commands;
      errors = t.errors;
      code = t.code;
      sequence = t.sequence;
      id = t.id;
    }

abbrev pub with_telemetry : Tallies → Both → Tallies
with_telemetry t x =
    record {
      broadcasts = t.broadcasts;
      packets = t.packets;
      telemetry = x;
      commands = t.commands;
      errors = t.errors;
      code = t.code;
      sequence = t.sequence;
      id = t.id;
    }

abbrev pub with_commands : Tallies → ℕ → Tallies
with_commands t x =
    record {
      broadcasts = t.broadcasts;
      packets = t.packets;
      telemetry = t.telemetry;
      commands = x;
      errors = t.errors;
      code = t.code;
      sequence = t.sequence;
      id = t.id;
    }

abbrev pub with_error : Tallies → ℕ → ℕ → Tallies
with_error t errors code =
    record {
      broadcasts = t.broadcasts;
      packets = t.packets;
      telemetry = t.telemetry;
      commands = t.commands;
      errors = errors;
      code = code;
      sequence = t.sequence;
      id = t.id;
    }

abbrev pub with_last : Tallies → ℕ → ℕ → Tallies
with_last t sequence id =
    record {
      broadcasts = t.broadcasts;
      packets = t.packets;
      telemetry = t.telemetry;
      commands = t.commands;
      errors = t.errors;
      code = t.code;
      sequence = sequence;
      id = id;
    }

-- A packet that is not full yet: SSP time and mode at its first sample, and its samples in order (none: no packet is open).
pub record Open : Type 0 where
  pub stamp : Stamp
  pub samples : List (List ℕ)

abbrev pub no_stamp : Stamp
no_stamp = record { time = 0; mode = 0 }

abbrev pub nothing_open : Open
nothing_open = record { stamp = no_stamp; samples = [] }

-- What is kept of the streams: of each its open packet, and the count that its next piece takes; of all together the pieces that wait.
pub record Streams : Type 0 where
  pub opened : ℕ → Open
  pub counts : ℕ → ℕ
  pub queue : List (Piece (List ℕ))

abbrev pub with_opened : Streams → (ℕ → Open) → Streams
with_opened k x = record { opened = x; counts = k.counts; queue = k.queue }

abbrev pub with_queue : Streams → List (Piece (List ℕ)) → Streams
with_queue k x = record { opened = k.opened; counts = k.counts; queue = x }

pub record Controller : Type 0 where
  pub clock : Clock
  pub standing : Standing
  pub impact : Impact
  pub tallies : Tallies
  pub housed : List ℕ
  pub streams : Streams

-- "A fresh controller has mode 1, unlocked, all numbers 0."
unfoldable pub start : Controller
start =
    record {
      clock = record { time = 0; altitude = 0; spin = 0; phase = 0; m = 0 };
      standing = record { mode = upper; locked = false; entry = record { time = 0; altitude = 0; old = 0 }; reference = 0 };
      impact = record { flag = false; stamp = no_stamp; window = no_comparison; ring = no_reading; collection = idle };
      tallies =
          record {
            broadcasts = record { a = 0; b = 0 };
            packets = record { a = 0; b = 0 };
            telemetry = record { a = 0; b = 0 };
            commands = 0;
            errors = 0;
            code = 0;
            sequence = 0;
            id = 0;
          };
      housed = replicate 58 0;
      streams = record { opened = λ s. nothing_open; counts = λ s. 0; queue = [] };
    }

-- one part of the controller changed, the others as they were
abbrev pub with_clock : Controller → Clock → Controller
with_clock c x =
    record {
      clock = x;
      standing = c.standing;
      impact = c.impact;
      tallies = c.tallies;
      housed = c.housed;
      streams = c.streams;
    }

abbrev pub with_standing : Controller → Standing → Controller
with_standing c x =
    record {
      clock = c.clock;
      standing = x;
      impact = c.impact;
      tallies = c.tallies;
      housed = c.housed;
      streams = c.streams;
    }

abbrev pub with_impact : Controller → Impact → Controller
with_impact c x =
    record {
      clock = c.clock;
      standing = c.standing;
      impact = x;
      tallies = c.tallies;
      housed = c.housed;
      streams = c.streams;
    }

abbrev pub with_tallies : Controller → Tallies → Controller
with_tallies c x =
    record {
      clock = c.clock;
      standing = c.standing;
      impact = c.impact;
      tallies = x;
      housed = c.housed;
      streams = c.streams;
    }

abbrev pub with_housed : Controller → List ℕ → Controller
with_housed c x =
    record {
      clock = c.clock;
      standing = c.standing;
      impact = c.impact;
      tallies = c.tallies;
      housed = x;
      streams = c.streams;
    }

abbrev pub with_streams : Controller → Streams → Controller
with_streams c x =
    record {
      clock = c.clock;
      standing = c.standing;
      impact = c.impact;
      tallies = c.tallies;
      housed = c.housed;
      streams = x;
    }

-- SSP time and mode of a stream's packet whose first sample comes now
abbrev pub stamp_now : Controller → ℕ → Stamp
stamp_now c s = record { time = now c.clock; mode = mode_byte s (nibble c.standing.mode c.standing.locked) }

-- "When full, it is filled up with 99 to whole pieces of 118 and queued, all pieces or none": a datastream packet of stream s,
-- for which there is room, joins the queue, and each piece takes its count.
abbrev pub with_packet : Streams → ℕ → List ℕ → Streams
with_packet k s x =
    record {
      opened = k.opened;
      counts = replaced k.counts s (after wrap (k.counts s) (cut (pieces s) x));
      queue = k.queue ++ numbered wrap s (k.counts s) (cut (pieces s) x);
    }

unfoldable pub queued : Controller → ℕ → List ℕ → Controller
queued c s x = with_streams c (with_packet c.streams s x)
