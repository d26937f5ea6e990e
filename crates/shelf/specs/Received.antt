-- One call of the reader on lent bytes: the reply and the output are document 01's for the reader that the bytes hold, and the
-- bytes that are left are said store by store.
-- Assumes nothing.
use Rattle.std.specs.Prelude.{Bool, true, false, cond, ◌&&◌, List, [], ◌∷◌, ℕ, ◌-◌, ◌*◌, ◌/◌, ◌%◌, eqb, ltb, length}
use Rattle.wire.specs.Wire.{part, put}
use Rattle.paper.specs.Streams.{pieces, listed}
use Rattle.paper.specs.Reader.{distance, placed, Packet, packet, not_carried, no_packet, packet_of, sound, ReaderOutcome, understood, reader_step}
use Rattle.lent.specs.Told.{Res, res}
use Rattle.shelf.specs.Layout.{record_at, gather_at, piece_at}
use Rattle.shelf.specs.View.{last_in, place_in, runs_in, reader_in}
use Rattle.shelf.specs.Range.{fit}

-- the four bytes of a record
abbrev pub record_of : ℕ → ℕ → ℕ → List ℕ
record_of last place mark = last / 256 ∷ last % 256 ∷ place ∷ mark ∷ []

unfoldable pub recorded_on : List ℕ → ℕ → ℕ → ℕ → ℕ → List ℕ
recorded_on s t last place mark = put s (record_at t) (record_of last place mark)

-- a piece gathered: its body, then the record. "The last place of a running gathering .. ends the gathering."
unfoldable pub gathers_on : List ℕ → ℕ → Bool → ℕ → ℕ → List ℕ → List ℕ
gathers_on s t at_last count place x = recorded_on (put s (piece_at t place) x) t count place (cond at_last 0 1)

-- "at place 0 gathering starts anew; at d = 1 a running gathering goes on; otherwise it is dropped"
abbrev pub moves_on : List ℕ → ℕ → (anew going_on at_last : Bool) → ℕ → ℕ → List ℕ → List ℕ
moves_on s t true going_on at_last count place x = gathers_on s t at_last count place x
moves_on s t false true at_last count place x = gathers_on s t at_last count place x
moves_on s t false false at_last count place x = recorded_on s t count place 0

-- "If 0: repeat. Else the place moves on"
abbrev pub arrives_on : List ℕ → ℕ → Bool → ℕ → ℕ → List ℕ → List ℕ
arrives_on s t true count d x = s
arrives_on s t false count d x =
    let place : ℕ = placed (pieces t) (place_in s t) d in
    moves_on s t (eqb place 0) (eqb d 1 && runs_in s t) (eqb place (pieces t - 1)) count place x

unfoldable pub arrived_on : List ℕ → ℕ → ℕ → List ℕ → List ℕ
arrived_on s t count x =
    let d : ℕ = distance (last_in s t) count in
    arrives_on s t (eqb d 0) count d x

unfoldable pub understood_on : List ℕ → Packet → List ℕ
understood_on s (packet t count x) = arrived_on s t count x
understood_on s not_carried = s
understood_on s no_packet = s

-- "24 output under 776"
unfoldable pub received_on : List ℕ → List ℕ → ℕ → List ℕ
received_on s f room = cond (ltb room 776) s (understood_on s (packet_of f))

abbrev pub told_of : ReaderOutcome → List ℕ → List ℕ → Res
told_of h o s = res h.reply (put o 0 h.out) s

-- what a packet comes to, where there is room
abbrev pub understood_to : List ℕ → Packet → List ℕ → Res
understood_to s p o = told_of (understood (reader_in s) p) o (understood_on s p)

-- all pieces of stream t's packet stand in the bytes: "1 handed out", at its listed length; "23 finished but opening, closing or
-- fill bytes are wrong"
unfoldable pub hands_to : List ℕ → ℕ → List ℕ → Res
hands_to s t o =
    cond (sound t (part s (gather_at t) (118 * pieces t))) (res 1 (put o 0 (part s (gather_at t) (listed t))) s) (res 23 o s)

-- "25 lent state unfit"; "bytes past what is handed out stay"
unfoldable pub read_of : List ℕ → List ℕ → List ℕ → Res
read_of s f o = cond (fit s) (told_of (reader_step (reader_in s) f (length o)) o (received_on s f (length o))) (res 25 o s)
