-- What a call of the reader leaves: bytes past the reader's as they were, bytes of the output past what is handed out as they were,
-- and with reply 23 a record that moved on and no gathering.
-- Assumes nothing.
use mathlib.Core.Path.{◌≡◌, refl, ◌∙◌}
use mathlib.Core.Bool.{Bool, true, false, cond, ◌&&◌}
use mathlib.Core.List.{List, []}
use mathlib.Core.Logic.{inl, inr}
use Prim.Native.Nat.{ℕ, ◌+◌, ◌-◌, ◌/◌, ◌%◌, ◌≤◌, ◌<◌}
use native.Mathlib.Nat.{mod-lt}
use native.Mathlib.Omega.{arith}
use lib.Dec.{eqb, ltb}
use lib.ListN.{length, take, drop}
use borrow.Author.Tests.{ltb-true, ltb-false, eqb-false}
use Rattle.wire.specs.Wire.{be16, put, Bytes}
use Rattle.wire.proofs.Runs.{drop-put}
use Rattle.paper.specs.Streams.{pieces, listed, carried}
use Rattle.paper.specs.Packets.{joined}
use Rattle.paper.specs.Queue as Queue
use Rattle.paper.specs.Reader.{Track, distance, placed, gathers, moves, arrives, arrive, Packet, packet, not_carried, no_packet, well_formed, packet_of, sound, Reader, ReaderOutcome, reader_outcome, received, understood, reader_step}
use Rattle.paper.proofs.Table.{Carried, carried_rules}
use Rattle.lent.specs.Told.{res}
use Rattle.shelf.specs.Layout.{reader_mark, piece_at, reader_bytes}
use Rattle.shelf.specs.View.{last_in, place_in, runs_in, reader_in}
use Rattle.shelf.specs.Range.{fit}
use Rattle.shelf.specs.Received.{gathers_on, moves_on, arrives_on, arrived_on, understood_on, received_on, told_of, read_of}
use Rattle.lent.proofs.Fitting.{fitting_true}
use Rattle.shelf.proofs.Gathered.{Elsewhere, record_elsewhere, body-elsewhere}
use Rattle.shelf.proofs.Packets.{Shaped, shaped, Any}
use Rattle.shelf.proofs.Refusals.{listed_most}
use Rattle.shelf.proofs.Handed.{Listed, handed-listed}
use Rattle.shelf.proofs.Steps.{received-left}

-- ---- bytes past the reader's

module _ (s : List ℕ) (w : reader_bytes ≤ length s) (t : ℕ) (c : carried t ≡ true) (count : ℕ) (x : List ℕ) (sized : length x ≡ 118) where
  r : Carried t
  r = carried_rules t c

  gathers-past : (at_last : Bool) (place : ℕ) → place < 7 → drop reader_bytes (gathers_on s t at_last count place x) ≡ drop reader_bytes s
  unfolding gathers_on
  gathers-past at_last place h =
      let body : Elsewhere (put s (piece_at t place) x) s t = body-elsewhere s w t r.small place x h sized in
      (record_elsewhere (put s (piece_at t place) x) (omega (arith, body.long)) t r.small count place (cond at_last 0 1)).past ∙ body.past

  moves-past : (anew going_on at_last : Bool) (place : ℕ) → place < 7
      → drop reader_bytes (moves_on s t anew going_on at_last count place x) ≡ drop reader_bytes s
  moves-past true going_on at_last place h = gathers-past at_last place h
  moves-past false true at_last place h = gathers-past at_last place h
  moves-past false false at_last place h = (record_elsewhere s w t r.small count place 0).past

  arrives-past : (b : Bool) (d : ℕ) → drop reader_bytes (arrives_on s t b count d x) ≡ drop reader_bytes s
  arrives-past true d = refl
  arrives-past false d =
      let place : ℕ = placed (pieces t) (place_in s t) d in
      moves-past (eqb place 0) (eqb d 1 && runs_in s t) (eqb place (pieces t - 1)) place
      (omega (arith, mod-lt (place_in s t + d) (ltb-true 0 (pieces t) c), r.few))

  arrived-past : drop reader_bytes (arrived_on s t count x) ≡ drop reader_bytes s
  unfolding arrived_on
  arrived-past = arrives-past (eqb (distance (last_in s t) count) 0) (distance (last_in s t) count)

understood-past : (s : List ℕ) → reader_bytes ≤ length s → (p : Packet) → Shaped Any p
    → drop reader_bytes (understood_on s p) ≡ drop reader_bytes s
unfolding understood_on
understood-past s w (packet t count x) h = arrived-past s w t h.0 count x h.2
understood-past s w not_carried h = refl
understood-past s w no_packet h = refl

-- of any call
pub later_bytes : (s f o : List ℕ) → drop reader_bytes (read_of s f o).state ≡ drop reader_bytes s
unfolding read_of received_on
later_bytes s f o = at (fit s) refl (ltb (length o) 776)
  where
    at : (b : Bool) → fit s ≡ b → (w : Bool)
        → drop reader_bytes
        (cond b (told_of (reader_step (reader_in s) f (length o)) o (cond w s (understood_on s (packet_of f)))) (res 25 o s)).state
        ≡ drop reader_bytes s
    at true e true = refl
    at true e false = understood-past s (fitting_true reader_bytes reader_mark s e).whole (packet_of f) (shaped Any f tt)
    at false e w = refl

-- ---- "bytes past what is handed out stay"

fronted : (h : ReaderOutcome) (o : List ℕ) (t : ℕ) → Listed t h.reply h.out → h.reply ≡ 1 → listed t ≤ length o
    → drop (listed t) (put o 0 h.out) ≡ drop (listed t) o
fronted h o t (inl l) e fits = drop-put o 0 h.out (omega (arith, l.1)) (listed t) (omega (arith, l.1))
fronted h o t (inr l) e fits = absurd (l.0 e)

pub output_past : (s f o : List ℕ) → (read_of s f o).reply ≡ 1
    → drop (listed (be16 f 6 % 16)) (read_of s f o).out ≡ drop (listed (be16 f 6 % 16)) o
unfolding read_of reader_step
output_past s f o = at (fit s) refl (ltb (length o) 776) refl
  where
    t : ℕ
    t = be16 f 6 % 16

    h : Bool → ReaderOutcome
    h w = cond w (reader_outcome 24 [] (reader_in s)) (understood (reader_in s) (packet_of f))

    at : (b : Bool) → fit s ≡ b → (w : Bool) → ltb (length o) 776 ≡ w
        → (cond b (told_of (h w) o (received_on s f (length o))) (res 25 o s)).reply ≡ 1
        → drop (listed t) (cond b (told_of (h w) o (received_on s f (length o))) (res 25 o s)).out ≡ drop (listed t) o
    at true e true l n = refl
    at true e false l n =
        fronted (understood (reader_in s) (packet_of f)) o t (handed-listed s f (fitting_true reader_bytes reader_mark s e)) n
        (omega (arith, ltb-false (length o) 776 l, listed_most t))
    at false e w l n = refl

-- ---- "23 finished but opening, closing or fill bytes are wrong (record moved on, gathering empty)"

-- the reader with the record of stream t at a count and a place, and no gathering
abbrev moved : Reader → ℕ → ℕ → ℕ → Reader
moved r t count place = Queue.replaced r t (record { last = count; place = place; running = false; gathered = [] })

module _ (r : Reader) (t count : ℕ) (x : List ℕ) where
  gathers_wrong : (at_last : Bool) (place : ℕ) (g : List (List ℕ)) → (received r t (gathers at_last count place g)).reply ≡ 23
      → (received r t (gathers at_last count place g)).next ≡ moved r t count place
  unfolding received
  gathers_wrong true place g e = at (sound t (joined g))
    where
      at : (b : Bool)
          → (cond b (reader_outcome 1 (take (listed t) (joined g)) (moved r t count place)) (reader_outcome 23 [] (moved r t count place))).next
          ≡ moved r t count place
      at true = refl
      at false = refl
  gathers_wrong false place g e = absurd (eqb-false 0 23 refl e)

  moves_wrong : (anew going_on at_last : Bool) (place : ℕ) (g : List (List ℕ))
      → (received r t (moves anew going_on at_last count place g x)).reply ≡ 23
      → (received r t (moves anew going_on at_last count place g x)).next ≡ moved r t count place
  unfolding received
  moves_wrong true going_on at_last place g e = gathers_wrong at_last place _ e
  moves_wrong false true at_last place g e = gathers_wrong at_last place _ e
  moves_wrong false false at_last place g e = absurd (eqb-false 0 23 refl e)

  arrives_wrong : (b : Bool) (k : ℕ) (q : Track (List ℕ)) (d : ℕ) → (received r t (arrives b k q count d x)).reply ≡ 23
      → (received r t (arrives b k q count d x)).next ≡ moved r t count (placed k q.place d)
  unfolding received
  arrives_wrong true k q d e = absurd (eqb-false 22 23 refl e)
  arrives_wrong false k q d e =
      let place : ℕ = placed k q.place d in
      moves_wrong (eqb place 0) (eqb d 1 && q.running) (eqb place (k - 1)) place q.gathered e

-- what document 01's reader leaves with reply 23
wrong : (r : Reader) (f : List ℕ) (room : ℕ) → (reader_step r f room).reply ≡ 23
    → let t : ℕ = be16 f 6 % 16 in
    let count : ℕ = be16 f 6 / 16 in
    (reader_step r f room).next ≡ moved r t count (placed (pieces t) (r t).place (distance (r t).last count))
unfolding reader_step understood packet_of arrive
wrong r f room = at (ltb room 776) (well_formed f) (carried (be16 f 6 % 16))
  where
    t : ℕ
    t = be16 f 6 % 16

    count : ℕ
    count = be16 f 6 / 16

    d : ℕ
    d = distance (r t).last count

    at : (w v c : Bool)
        → (cond w (reader_outcome 24 [] r) (understood r (cond v (cond c (packet t count (drop 8 f)) not_carried) no_packet))).reply ≡ 23
        → (cond w (reader_outcome 24 [] r) (understood r (cond v (cond c (packet t count (drop 8 f)) not_carried) no_packet))).next
        ≡ moved r t count (placed (pieces t) (r t).place d)
    at true v c e = absurd (eqb-false 24 23 refl e)
    at false true true e = arrives_wrong r t count (drop 8 f) (eqb d 0) (pieces t) (r t) d e
    at false true false e = absurd (eqb-false 21 23 refl e)
    at false false c e = absurd (eqb-false 20 23 refl e)

pub moved_on_lem : (s f o : List ℕ) → Bytes f → (read_of s f o).reply ≡ 23
    → let t : ℕ = be16 f 6 % 16 in
    let count : ℕ = be16 f 6 / 16 in
    reader_in (read_of s f o).state
    ≡ moved (reader_in s) t count (placed (pieces t) (reader_in s t).place (distance (reader_in s t).last count))
unfolding read_of
moved_on_lem s f o b = at (fit s) refl
  where
    at : (x : Bool) → fit s ≡ x
        → (cond x (told_of (reader_step (reader_in s) f (length o)) o (received_on s f (length o))) (res 25 o s)).reply ≡ 23
        → reader_in (cond x (told_of (reader_step (reader_in s) f (length o)) o (received_on s f (length o))) (res 25 o s)).state
        ≡ moved (reader_in s) (be16 f 6 % 16) (be16 f 6 / 16)
        (placed (pieces (be16 f 6 % 16)) (reader_in s (be16 f 6 % 16)).place (distance (reader_in s (be16 f 6 % 16)).last (be16 f 6 / 16)))
    at true e n = (received-left s f (length o) (fitting_true reader_bytes reader_mark s e) b).held ∙ wrong (reader_in s) f (length o) n
    at false e n = absurd (eqb-false 25 23 refl n)
