-- What the functions' contracts rest on: a move's stores as one call's, and the tests of a call.
-- Assumes nothing.
use mathlib.Core.Path.{◌≡◌, refl, sym, ap, ◌∙◌}
use mathlib.Core.Bool.{Bool, true, false, ◌&&◌, ◌||◌}
use mathlib.Core.List.{List}
use Prim.Native.Nat.{ℕ, ◌+◌, ◌-◌, ◌/◌, ◌%◌, ◌≤◌, ◌<◌}
use native.Mathlib.Nat.{mod-lt}
use native.Mathlib.Omega.{arith}
use lib.Dec.{eqb}
use lib.ListN.{length, length-drop, get_or, drop}
use borrow.Author.Tests.{eqb-true, eqb-false, ltb-true, lt-ltb, le-ltb}
use Rattle.wire.specs.Wire.{be16, put}
use Rattle.paper.specs.Streams.{pieces, carried}
use Rattle.paper.specs.Status.{bit}
use Rattle.paper.specs.Reader.{distance, placed, packet, well_formed, packet_of, understood, reader_step}
use Rattle.lent.specs.Told.{Res, res}
use Rattle.streams.specs.declared.Stream.{Stream}
use Rattle.streams.specs.Meaning.{number}
use Rattle.streams.proofs.Numbers.{number_carried}
use Rattle.track.specs.declared.Track.{Track}
use Rattle.track.specs.declared.Move.{Move}
use Rattle.track.specs.declared.Move.TheVariants.{Repeat, Dropped, Kept, Finished}
use Rattle.track.specs.Moves.{Moved, InRange, Right}
use Rattle.track.proofs.RightMoves.{right_repeat, right_dropped, right_kept, right_finished}
use Rattle.track.proofs.Only.{only}
use Rattle.shelf.specs.Layout.{reader_mark, place_at, piece_at, reader_bytes}
use Rattle.shelf.specs.View.{last_in, place_in, runs_in}
use Rattle.shelf.specs.Range.{Fit, fit}
use Rattle.shelf.specs.Received.{recorded_on, gathers_on, understood_on, received_on, understood_to, hands_to, read_of}
use Rattle.lent.proofs.Fitting.{fitting_true}
use Rattle.shelf.proofs.Packets.{long-enough}
use Rattle.shelf.proofs.Formed.{gathers_to, moves_to, arrives_to, arrived_formed}

-- ---- the stores of a move

-- the record that the bytes hold
abbrev pub found : List ℕ → ℕ → Track
found s t = record { last = last_in s t; place = place_in s t; running = runs_in s t }

-- the record anew
abbrev pub noted : List ℕ → ℕ → Track → List ℕ
noted s t u = recorded_on s t u.last u.place (bit u.running)

-- the body at its place, and the record anew
abbrev pub kept : List ℕ → ℕ → List ℕ → Track → List ℕ
kept s t x u = noted (put s (piece_at t u.place) x) t u

abbrev pub stores : List ℕ → ℕ → List ℕ → List ℕ → Track → Move → Res
stores s t x o u Repeat = res 22 o s
stores s t x o u Dropped = res 0 o (noted s t u)
stores s t x o u Kept = res 0 o (kept s t x u)
stores s t x o u Finished = hands_to (kept s t x u) t o

module _ (s : List ℕ) (t : ℕ) (c : carried t ≡ true) (count : ℕ) (small : count < 4096) where
  pub ok : InRange (found s t) (pieces t) count
  ok =
      let some = ltb-true 0 (pieces t) c in
      record { some = some; place = mod-lt (get_or s (place_at t) 0) some; last = omega arith; count = small }

  abbrev d : ℕ
  d = distance (last_in s t) count

  abbrev place : ℕ
  place = placed (pieces t) (place_in s t) d

  abbrev going_on : Bool
  going_on = eqb d 1 && runs_in s t

  below : place < pieces t
  below = mod-lt (place_in s t + d) ok.some

  module _ (fits : Fit s) (x : List ℕ) (sized : length x ≡ 118) (o : List ℕ) where
    gathered : (anew goes : Bool) → (anew || goes) ≡ true → (at_last : Bool)
        → moves_to s t anew goes at_last count place x o ≡ gathers_to s t at_last count place x o
    gathered true goes e at_last = refl
    gathered false true e at_last = refl
    gathered false false e at_last = cc

    dropped : (anew goes : Bool) → (anew || goes) ≡ false → (at_last : Bool)
        → moves_to s t anew goes at_last count place x o ≡ res 0 o (recorded_on s t count place 0)
    dropped true goes e at_last = cc
    dropped false true e at_last = cc
    dropped false false e at_last = refl

    module _ (m : Moved) (right : Right (found s t) (pieces t) count m) where
      same : (n : Moved) → Right (found s t) (pieces t) count n → (y : Res) → y ≡ stores s t x o n.track n.step → y ≡ stores s t x o m.track m.step
      same n right' y e = rw (only (found s t) (pieces t) count m n right right') e

      decided : (a b l : Bool) → eqb d 0 ≡ a → (eqb place 0 || going_on) ≡ b → eqb place (pieces t - 1) ≡ l
          → arrives_to s t a count d x o ≡ stores s t x o m.track m.step
      unfolding gathers_on
      decided true b l p q e = same _ (right_repeat (found s t) (pieces t) count d refl ok (eqb-true d 0 p)) _ refl
      decided false false l p q e =
          same _ (right_dropped (found s t) (pieces t) count d place refl refl ok below (eqb-false d 0 p) q) _
          (dropped (eqb place 0) going_on q (eqb place (pieces t - 1)))
      decided false true false p q e =
          same _
          (right_kept (found s t) (pieces t) count d place refl refl ok below (eqb-false d 0 p) q (eqb-false place (pieces t - 1) e)) _
          (gathered (eqb place 0) going_on q (eqb place (pieces t - 1)) ∙ rw e)
      decided false true true p q e =
          same _
          (right_finished (found s t) (pieces t) count d place refl refl ok below (eqb-false d 0 p) q (eqb-true place (pieces t - 1) e)) _
          (gathered (eqb place 0) going_on q (eqb place (pieces t - 1)) ∙ rw e)

      -- a move's stores are what document 01's reader comes to
      pub move-stores : (k : Move) → m.step ≡ k → stores s t x o m.track k ≡ understood_to s (packet t count x) o
      move-stores k e =
          sym (arrived_formed s fits t c count x sized o ∙ decided _ _ _ refl refl refl ∙ ap (λ (j : Move). stores s t x o m.track j) e)

-- what a call comes to, from the record u that it read, the pieces k, and the move m with the record v after it, which are right
pub arrived : (s : List ℕ) (stream : Stream) (count : ℕ) (f o : List ℕ) (u v : Track) (k : ℕ) (m step : Move)
    → (Fit s) × (count < 4096) × (length f ≡ 126) × (776 ≤ length o) → u ≡ found s (number stream) → k ≡ pieces (number stream)
    → Right u k count (record { track = v; step = m }) → m ≡ step
    → stores s (number stream) (drop 8 f) o v step ≡ understood_to s (packet (number stream) count (drop 8 f)) o
arrived s stream count f o u v k m step given e a right q =
    move-stores s (number stream) (number_carried stream) count given.1 given.0 (drop 8 f) (omega (arith, length-drop 8 f, given.2)) o _
    (rw (e, a) at right) step q

-- ---- the tests of a call

-- the code's tests in their order, each with what is left where it is the first that applies
pub unfit : (s f o : List ℕ) → fit s ≡ false → read_of s f o ≡ res 25 o s
unfolding read_of
unfit s f o h = rw h

module _ (s f o : List ℕ) (fits : fit s ≡ true) where
  pub a_reader : Fit s
  a_reader = fitting_true reader_bytes reader_mark s fits

  pub no_room : length o < 776 → read_of s f o ≡ res 24 o s
  unfolding read_of received_on reader_step
  no_room l = rw (fits, lt-ltb _ _ l)

  pub known : 776 ≤ length o → read_of s f o ≡ understood_to s (packet_of f) o
  unfolding read_of received_on reader_step
  known l = rw (fits, le-ltb _ _ l)

pub no_packet_lem : (s f o : List ℕ) → well_formed f ≡ false → understood_to s (packet_of f) o ≡ res 20 o s
unfolding packet_of understood understood_on
no_packet_lem s f o e = rw e

pub long : (f : List ℕ) → well_formed f ≡ true → length f ≡ 126
long f e = long-enough f e

pub not_carried_lem : (s f o : List ℕ) → well_formed f ≡ true → carried (be16 f 6 % 16) ≡ false
    → understood_to s (packet_of f) o ≡ res 21 o s
unfolding packet_of understood understood_on
not_carried_lem s f o e c = rw (e, c)

pub arrival : (f : List ℕ) (stream : Stream) (tag : ℕ) → well_formed f ≡ true → tag ≡ be16 f 6 → number stream ≡ tag % 16
    → packet_of f ≡ packet (number stream) (tag / 16) (drop 8 f)
unfolding packet_of
arrival f stream tag e g n = rw (e, sym g, sym n, number_carried stream)
