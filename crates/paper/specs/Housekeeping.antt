-- Document 01, "Housekeeping follows the offset table of 3.2.12.2": the packet, field by field. The offsets of the manual's
-- table are in the comments; they count from the Huygens packet's first byte, so the datastream packet begins at 8.
-- Assumes nothing.
use Rattle.std.specs.Prelude.{cond, List, [], ◌∷◌, ◌++◌, ℕ, zero, suc, ◌*◌}
use Rattle.wire.specs.Wire.{bytes16, bytes24}
use Rattle.paper.specs.Streams.{carried, hk}
use Rattle.paper.specs.Packets.{datastream}
use Rattle.paper.specs.Controller.{Controller, stamp_now}

-- "Each stream count there is the next one to be given, times 16, low nibble 0 ..; streams not carried show 0."
abbrev pub count_field : Controller → ℕ → List ℕ
count_field c s = bytes16 (cond (carried s) (c.streams.counts s * 16) 0)

-- the fields of n streams from s on
abbrev pub count_fields : Controller → ℕ → ℕ → List ℕ
count_fields c s zero = []
count_fields c s (suc n) = count_field c s ++ count_fields c (suc s) n

-- the 110 bytes of the data field
unfoldable pub housekeeping_data : Controller → List ℕ
housekeeping_data c =
    -- 14 altitude, 16 spin rate, 17 mission phase
    bytes16 c.clock.altitude ++ (c.clock.spin ∷ c.clock.phase ∷ [])
    -- 18 time last mode change, 21 last mode, 22 altitude last mode change
    ++ bytes24 c.standing.entry.time ++ (c.standing.entry.old ∷ []) ++ bytes16 c.standing.entry.altitude
    -- 24 command count
    ++ bytes16 c.tallies.commands
    -- 26 and 28 broadcast counts
    ++ bytes16 c.tallies.broadcasts.a ++ bytes16 c.tallies.broadcasts.b
    -- 30 and 32 command packet counts
    ++ bytes16 c.tallies.packets.a ++ bytes16 c.tallies.packets.b
    -- 34 and 36 telemetry packet counts
    ++ bytes16 c.tallies.telemetry.a ++ bytes16 c.tallies.telemetry.b
    -- 38 error count, 39 error code, 40 last command's sequence number, 41 last command's code
    ++ (c.tallies.errors ∷ c.tallies.code ∷ c.tallies.sequence ∷ c.tallies.id ∷ [])
    -- 42 to 65 packet counts of streams 0 to B
    ++ count_fields c 0 12
    -- "Bytes 66 to 123 are those of the last frame 07, zeros before."
    ++ c.housed

-- "for HK as it is built": SSP time and mode
unfoldable pub housekeeping_packet : Controller → List ℕ
housekeeping_packet c = datastream (stamp_now c hk) (housekeeping_data c)
