-- What is handed out has its stream's listed length, and with any reply but 1 nothing is. Of a call on lent bytes that are fit.
-- Assumes nothing.
use mathlib.Core.Path.{◌≡◌, refl, sym, ap, subst, ◌∙◌}
use mathlib.Core.Bool.{Bool, true, false, cond, ◌&&◌}
use mathlib.Core.List.{List, [], ◌++◌, append-nil}
use mathlib.Core.Logic.{◌⊎◌, inl, inr}
use Prim.Native.Nat.{ℕ, ◌+◌, ◌-◌, ◌*◌, ◌/◌, ◌%◌, ◌≤◌, ◌<◌}
use native.Mathlib.Nat.{mod-lt}
use native.Mathlib.Omega.{arith}
use lib.Dec.{eqb}
use lib.ListN.{length, drop, length-drop, drop_of_length-le}
use borrow.Author.Tests.{ltb-true}
use Rattle.wire.specs.Wire.{be16, part, put}
use Rattle.wire.proofs.Runs.{length_part}
use Rattle.paper.specs.Streams.{pieces, listed, carried}
use Rattle.paper.specs.Reader.{distance, placed, Packet, packet, not_carried, no_packet, well_formed, packet_of, sound, understood, reader_step}
use Rattle.paper.proofs.Table.{Carried, carried_rules}
use Rattle.lent.specs.Told.{Res, res}
use Rattle.shelf.specs.Layout.{reader_bytes, gather_at, piece_at}
use Rattle.shelf.specs.View.{last_in, place_in, runs_in, reader_in}
use Rattle.shelf.specs.Range.{Fit}
use Rattle.shelf.specs.Received.{gathers_on, understood_to, hands_to}
use Rattle.shelf.proofs.Gathered.{Elsewhere, record_elsewhere, body-elsewhere}
use Rattle.shelf.proofs.Packets.{long-enough}
use Rattle.shelf.proofs.Formed.{gathers_to, moves_to, arrives_to, arrived_to, arrived_formed}

-- a reply and the bytes that came with it, of stream t
abbrev pub Listed : ℕ → ℕ → List ℕ → Type 0
Listed t reply out = ((reply ≡ 1) × (length out ≡ listed t)) ⊎ ((reply ≡ 1 → ⊥) × (out ≡ []))

-- a run stored over nothing
alone : (v : List ℕ) → put [] 0 v ≡ v
alone v = ap (λ (z : List ℕ). v ++ z) (drop_of_length-le [] {i = 0 + length v} (omega arith)) ∙ append-nil v

module _ (s : List ℕ) (w : reader_bytes ≤ length s) (t : ℕ) (c : carried t ≡ true) (count : ℕ) (x : List ℕ) (sized : length x ≡ 118) where
  r : Carried t
  r = carried_rules t c

  gathers-long : (place : ℕ) → place < 7 → length (gathers_on s t true count place x) ≡ length s
  unfolding gathers_on
  gathers-long place h =
      let body : Elsewhere (put s (piece_at t place) x) s t = body-elsewhere s w t r.small place x h sized in
      (record_elsewhere (put s (piece_at t place) x) (omega (arith, body.long)) t r.small count place 0).long ∙ body.long

  gathers-listed : (b : Bool) (place : ℕ) → place < 7
      → Listed t (gathers_to s t b count place x []).reply (gathers_to s t b count place x []).out
  unfolding hands_to
  gathers-listed true place h = at (sound t (part y (gather_at t) (118 * pieces t)))
    where
      y : List ℕ
      y = gathers_on s t true count place x

      v : List ℕ
      v = part y (gather_at t) (listed t)

      at : (b : Bool) → Listed t (cond b (res 1 (put [] 0 v) y) (res 23 [] y)).reply (cond b (res 1 (put [] 0 v) y) (res 23 [] y)).out
      at true =
          inl (
            refl,
            ap length (alone v)
                ∙ length_part y (gather_at t) (listed t) (omega (arith, gathers-long place h, r.small, r.fits, r.few)),
          )
      at false = inr ((λ e. absurd (omega arith)), refl)
  gathers-listed false place h = inr ((λ e. absurd (omega arith)), refl)

  moves-listed : (anew going_on at_last : Bool) (place : ℕ) → place < 7
      → Listed t (moves_to s t anew going_on at_last count place x []).reply (moves_to s t anew going_on at_last count place x []).out
  moves-listed true going_on at_last place h = gathers-listed at_last place h
  moves-listed false true at_last place h = gathers-listed at_last place h
  moves-listed false false at_last place h = inr ((λ e. absurd (omega arith)), refl)

  arrives-listed : (b : Bool) (d : ℕ) → Listed t (arrives_to s t b count d x []).reply (arrives_to s t b count d x []).out
  arrives-listed true d = inr ((λ e. absurd (omega arith)), refl)
  arrives-listed false d =
      let place : ℕ = placed (pieces t) (place_in s t) d in
      moves-listed (eqb place 0) (eqb d 1 && runs_in s t) (eqb place (pieces t - 1)) place
      (omega (arith, mod-lt (place_in s t + d) (ltb-true 0 (pieces t) c), r.few))

  arrived-listed : Listed t (arrived_to s t count x []).reply (arrived_to s t count x []).out
  arrived-listed = arrives-listed (eqb (distance (last_in s t) count) 0) (distance (last_in s t) count)

-- what the reader that the bytes hold hands out is what a call stores over nothing
packet-listed : (s : List ℕ) → Fit s → (t count : ℕ) (x : List ℕ) → carried t ≡ true → length x ≡ 118
    → Listed t (understood (reader_in s) (packet t count x)).reply (understood (reader_in s) (packet t count x)).out
packet-listed s f t count x c e =
    let p : Packet = packet t count x in
    let stored : understood_to s p [] ≡ arrived_to s t count x [] = arrived_formed s f t c count x e [] in
    subst (λ (v : List ℕ). Listed t (understood (reader_in s) p).reply v) (alone (understood (reader_in s) p).out)
    (subst (λ (y : Res). Listed t y.reply y.out) (sym stored) (arrived-listed s f.whole t c count x e))

not_carried-listed : (s : List ℕ) (t : ℕ) → Listed t (understood (reader_in s) not_carried).reply (understood (reader_in s) not_carried).out
unfolding understood
not_carried-listed s t = inr ((λ e. absurd (omega arith)), refl)

no_packet-listed : (s : List ℕ) (t : ℕ) → Listed t (understood (reader_in s) no_packet).reply (understood (reader_in s) no_packet).out
unfolding understood
no_packet-listed s t = inr ((λ e. absurd (omega arith)), refl)

-- "1 handed out"; "the packet at its listed length"
pub handed-listed : (s f : List ℕ) → Fit s
    → Listed (be16 f 6 % 16) (reader_step (reader_in s) f 776).reply (reader_step (reader_in s) f 776).out
unfolding packet_of reader_step
handed-listed s f g = at (well_formed f) refl (carried t) refl
  where
    t : ℕ
    t = be16 f 6 % 16

    said : Bool → Bool → Packet
    said w c = cond w (cond c (packet t (be16 f 6 / 16) (drop 8 f)) not_carried) no_packet

    at : (w : Bool) → well_formed f ≡ w → (c : Bool) → carried t ≡ c
        → Listed t (understood (reader_in s) (said w c)).reply (understood (reader_in s) (said w c)).out
    at true w true c = packet-listed s g t (be16 f 6 / 16) (drop 8 f) c (omega (arith, length-drop 8 f, long-enough f w))
    at true w false c = not_carried-listed s t
    at false w c d = no_packet-listed s t
