-- Document 01, "Reader": the record of one stream, what an arriving packet does to it, and one call of the reader.
-- Assumes nothing.
use Rattle.std.specs.Prelude.{Bool, true, false, cond, ◌&&◌, ◌||◌, List, [], ◌∷◌, ◌++◌, ℕ, ◌+◌, ◌-◌, ◌/◌, ◌%◌, eqb, ltb, length, get_or, take, drop}
use Rattle.wire.specs.Wire.{be16}
use Rattle.paper.specs.Frames.{cdmu_a, cdmu_b}
use Rattle.paper.specs.Streams.{pieces, listed, carried}
use Rattle.paper.specs.Packets.{joined, opening, closing, fill, packet_id, packet_length, packet_size}
use Rattle.paper.specs.Queue.{replaced}

-- ---- the record of one stream

-- "The reader's last count, its place and whether a gathering runs, for one stream, are a small record", and the pieces gathered
-- so far. Pieces are of any form here.
pub record Track (A : Type 0) : Type 0 where
  pub last : ℕ
  pub place : ℕ
  pub running : Bool
  pub gathered : List A

-- "A fresh record has last count 4095, the last place and no gathering." (k pieces make a packet)
abbrev pub fresh : {A : Type 0} → ℕ → Track A
fresh k = record { last = 4095; place = k - 1; running = false; gathered = [] }

-- "d = count minus last, modulo 4096."
abbrev pub distance : ℕ → ℕ → ℕ
distance last count = (count + 4096 - last) % 4096

-- "the place moves on by d modulo the pieces of that stream"
abbrev pub placed : ℕ → ℕ → ℕ → ℕ
placed k place d = (place + d) % k

-- What an arriving piece does: it repeats, and the record stays; it is taken, and leaves a record; or it finishes a packet, and
-- leaves a record and the packet's pieces.
pub data ArrivalEffect (A : Type 0) : Type 0 where
  repeated : ArrivalEffect A
  taken : Track A → ArrivalEffect A
  finished : Track A → List A → ArrivalEffect A

-- "The last place of a running gathering hands out the packet .. and ends the gathering."
abbrev pub gathers : {A : Type 0} → Bool → ℕ → ℕ → List A → ArrivalEffect A
gathers true count place g = finished (record { last = count; place = place; running = false; gathered = [] }) g
gathers false count place g = taken (record { last = count; place = place; running = true; gathered = g })

-- "at place 0 gathering starts anew; at d = 1 a running gathering goes on; otherwise it is dropped"
abbrev pub moves : {A : Type 0} → (anew going_on at_last : Bool) → ℕ → ℕ → List A → A → ArrivalEffect A
moves true going_on at_last count place g x = gathers at_last count place (x ∷ [])
moves false true at_last count place g x = gathers at_last count place (g ++ (x ∷ []))
moves false false at_last count place g x = taken (record { last = count; place = place; running = false; gathered = [] })

-- "If 0: repeat. Else the place moves on"
abbrev pub arrives : {A : Type 0} → Bool → ℕ → Track A → ℕ → ℕ → A → ArrivalEffect A
arrives true k t count d x = repeated
arrives false k t count d x =
    let place : ℕ = placed k t.place d in
    moves (eqb place 0) (eqb d 1 && t.running) (eqb place (k - 1)) count place t.gathered x

-- a piece with its count arrives at the record of a stream of k pieces
unfoldable pub arrive : {A : Type 0} → ℕ → Track A → ℕ → A → ArrivalEffect A
arrive k t count x =
    let d : ℕ = distance t.last count in
    arrives (eqb d 0) k t count d x

-- ---- packets

pub data Packet : Type 0 where
  packet : ℕ → ℕ → List ℕ → Packet
  not_carried : Packet
  no_packet : Packet

-- "20 not 126 bytes, or a wrong ID, length or top two sequence bits"
unfoldable pub well_formed : List ℕ → Bool
well_formed f =
    eqb (length f) packet_size
    && ((eqb (be16 f 0) (packet_id cdmu_a) || eqb (be16 f 0) (packet_id cdmu_b))
    && (eqb (get_or f 2 0 / 64) 3 && eqb (be16 f 4) packet_length))

-- "count times 16 plus stream; 118 bytes"; "21 stream not carried"
unfoldable pub packet_of : List ℕ → Packet
packet_of f =
    cond (well_formed f) (cond (carried (be16 f 6 % 16)) (packet (be16 f 6 % 16) (be16 f 6 / 16) (drop 8 f)) not_carried) no_packet

-- ---- a finished packet

-- whether bytes stand in x from an offset on
abbrev pub stands : List ℕ → ℕ → List ℕ → Bool
stands x at [] = true
stands x at (b ∷ bs) = eqb (get_or x at 0) b && stands x (at + 1) bs

abbrev pub all99 : List ℕ → Bool
all99 [] = true
all99 (x ∷ xs) = eqb x fill && all99 xs

-- "opening, closing or fill bytes": whether those of a finished packet of stream s are right
unfoldable pub sound : ℕ → List ℕ → Bool
sound s x = stands x 0 opening && (stands x (listed s - 2) closing && all99 (drop (listed s) x))

-- ---- one call

-- a record for each stream
abbrev pub Reader : Type 0
Reader = ℕ → Track (List ℕ)

unfoldable pub reader_start : Reader
reader_start s = fresh (pieces s)

pub record ReaderOutcome : Type 0 where
  pub reply : ℕ
  pub out : List ℕ
  pub next : Reader

abbrev pub reader_outcome : ℕ → List ℕ → Reader → ReaderOutcome
reader_outcome n o r = record { reply = n; out = o; next = r }

-- "22 repeat"; "0 taken"; "1 handed out .. at its listed length"; "23 finished but opening, closing or fill bytes are wrong
-- (record moved on, gathering empty)"
unfoldable pub received : Reader → ℕ → ArrivalEffect (List ℕ) → ReaderOutcome
received r s repeated = reader_outcome 22 [] r
received r s (taken t) = reader_outcome 0 [] (replaced r s t)
received r s (finished t g) =
    cond (sound s (joined g)) (reader_outcome 1 (take (listed s) (joined g)) (replaced r s t)) (reader_outcome 23 [] (replaced r s t))

unfoldable pub understood : Reader → Packet → ReaderOutcome
understood r (packet s count x) = received r s (arrive (pieces s) (r s) count x)
understood r not_carried = reader_outcome 21 [] r
understood r no_packet = reader_outcome 20 [] r

-- "Order 25, 24, 20, 21, 22, 23." (25, a lent state that is unfit, comes before any reader is there.) "24 output under 776"
unfoldable pub reader_step : Reader → List ℕ → ℕ → ReaderOutcome
reader_step r bytes room = cond (ltb room 776) (reader_outcome 24 [] r) (understood r (packet_of bytes))
