-- What a packet of a carried stream comes to, with the reply and the output said by the bytes too, one step after the other, as code
-- follows them: it is the call of Received, whose reply and output are document 01's.
-- Assumes nothing.
use mathlib.Core.Path.{◌≡◌, refl, sym, ap, ◌∙◌, subst}
use mathlib.Core.Bool.{Bool, true, false, cond, ◌&&◌}
use mathlib.Core.List.{List, [], ◌∷◌, ◌++◌}
use Prim.Native.Nat.{ℕ, suc, ◌+◌, ◌-◌, ◌*◌, ◌<◌}
use native.Mathlib.Nat.{mod-lt}
use native.Mathlib.Omega.{arith}
use lib.Dec.{eqb}
use lib.ListN.{length, get_or, take, drop}
use lib.Seq.{take-take}
use borrow.Author.Tests.{ltb-true, eqb-true}
use Rattle.wire.specs.Wire.{part, put}
use Rattle.wire.proofs.Runs.{part-put-after}
use Rattle.paper.specs.Streams.{pieces, listed, carried}
use Rattle.paper.specs.Packets.{chunks, joined}
use Rattle.paper.specs.Queue as Queue
use Rattle.paper.specs.Reader.{Track, fresh, distance, placed, gathers, moves, arrives, arrive, packet, sound, Reader, reader_outcome, received, understood}
use Rattle.lent.specs.Told.{Res, res}
use Rattle.paper.proofs.Packets.{joined-chunks}
use Rattle.paper.proofs.Table.{Carried, carried_rules}
use Rattle.shelf.specs.Layout.{record_at, place_at, gather_at, piece_at}
use Rattle.shelf.specs.View.{last_in, place_in, runs_in, track_in, reader_in}
use Rattle.shelf.specs.Range.{Fit}
use Rattle.shelf.specs.Received.{record_of, recorded_on, gathers_on, moves_on, arrives_on, arrived_on, understood_on, told_of, understood_to, hands_to}
use Rattle.wire.proofs.Both.{both}
use Rattle.shelf.proofs.Gathered.{piece_snoc, Elsewhere, body-elsewhere, follows}

-- ---- by the bytes

abbrev pub gathers_to : List ℕ → ℕ → Bool → ℕ → ℕ → List ℕ → List ℕ → Res
gathers_to s t true count place x o = hands_to (gathers_on s t true count place x) t o
gathers_to s t false count place x o = res 0 o (gathers_on s t false count place x)

abbrev pub moves_to : List ℕ → ℕ → (anew going_on at_last : Bool) → ℕ → ℕ → List ℕ → List ℕ → Res
moves_to s t true going_on at_last count place x o = gathers_to s t at_last count place x o
moves_to s t false true at_last count place x o = gathers_to s t at_last count place x o
moves_to s t false false at_last count place x o = res 0 o (recorded_on s t count place 0)

abbrev pub arrives_to : List ℕ → ℕ → Bool → ℕ → ℕ → List ℕ → List ℕ → Res
arrives_to s t true count d x o = res 22 o s
arrives_to s t false count d x o =
    let place : ℕ = placed (pieces t) (place_in s t) d in
    moves_to s t (eqb place 0) (eqb d 1 && runs_in s t) (eqb place (pieces t - 1)) count place x o

abbrev pub arrived_to : List ℕ → ℕ → ℕ → List ℕ → List ℕ → Res
arrived_to s t count x o =
    let d : ℕ = distance (last_in s t) count in
    arrives_to s t (eqb d 0) count d x o

-- ---- it is the same

module _ (s : List ℕ) (f : Fit s) (t : ℕ) (c : carried t ≡ true) (count : ℕ) (x : List ℕ) (sized : length x ≡ 118) (o : List ℕ) where
  r : Carried t
  r = carried_rules t c

  -- the last piece stored, the packet stands in the bytes
  pub packet-stands : (place : ℕ) → suc place ≡ pieces t
      → joined (chunks 118 place (drop (gather_at t) s) ++ (x ∷ []))
      ≡ part (gathers_on s t true count place x) (gather_at t) (118 * pieces t)
  unfolding gathers_on recorded_on
  packet-stands place e =
      let few : place < 7 = omega (arith, r.few) in
      let y : List ℕ = put s (piece_at t place) x in
      let body : Elsewhere y s t = body-elsewhere s f.whole t r.small place x few sized in
      let snoc : chunks 118 (suc place) (drop (gather_at t) y) ≡ chunks 118 place (drop (gather_at t) s) ++ (x ∷ []) =
      piece_snoc s (gather_at t) place x sized (omega (arith, r.small, f.whole)) in
      let apart : part (put y (record_at t) (record_of count place 0)) (gather_at t) (118 * pieces t) ≡ part y (gather_at t) (118 * pieces t) =
      part-put-after y (record_at t) (record_of count place 0) (omega (arith, r.small, f.whole, body.long)) (gather_at t) (118 * pieces t)
      (omega (arith, r.small)) (omega (arith, r.small, r.few, f.whole, body.long)) in
      let size : suc place * 118 ≡ 118 * pieces t = omega arith in
      ap joined (sym snoc)
      ∙ joined-chunks 118 (suc place) (drop (gather_at t) y)
      ∙ ap (part y (gather_at t)) size
      ∙ sym apart

  gathers_formed : (b : Bool) (place : ℕ) (g : List (List ℕ)) → place < pieces t → eqb place (pieces t - 1) ≡ b
      → chunks 118 place (drop (gather_at t) s) ++ (x ∷ []) ≡ g
      → told_of (received (reader_in s) t (gathers b count place g)) o (gathers_on s t b count place x) ≡ gathers_to s t b count place x o
  unfolding received hands_to
  gathers_formed true place g h l e = rw packet (at (sound t p))
    where
      y : List ℕ
      y = gathers_on s t true count place x

      p : List ℕ
      p = part y (gather_at t) (118 * pieces t)

      packet : joined g ≡ p
      packet = ap joined (sym e) ∙ packet-stands place (omega (arith, eqb-true place (pieces t - 1) l))

      q : Reader
      q = Queue.replaced (reader_in s) t (record { last = count; place = place; running = false; gathered = [] })

      front : take (listed t) p ≡ part y (gather_at t) (listed t)
      front = take-take (listed t) (118 * pieces t) (drop (gather_at t) y) (omega (arith, r.fits))

      at : (b : Bool) → told_of (cond b (reader_outcome 1 (take (listed t) p) q) (reader_outcome 23 [] q)) o y
          ≡ cond b (res 1 (put o 0 (part y (gather_at t) (listed t))) y) (res 23 o y)
      at true = ap (λ (v : List ℕ). res 1 (put o 0 v) y) front
      at false = refl
  gathers_formed false place g h l e = refl

  moves_formed : (d : ℕ) (anew going_on at_last : Bool) → eqb (placed (pieces t) (place_in s t) d) 0 ≡ anew
      → (eqb d 1 && runs_in s t) ≡ going_on → eqb (placed (pieces t) (place_in s t) d) (pieces t - 1) ≡ at_last
      → told_of
      (received (reader_in s) t
      (moves anew going_on at_last count (placed (pieces t) (place_in s t) d) (track_in s t).gathered x)) o
      (moves_on s t anew going_on at_last count (placed (pieces t) (place_in s t) d) x)
      ≡ moves_to s t anew going_on at_last count (placed (pieces t) (place_in s t) d) x o
  unfolding received track_in
  moves_formed d anew going_on at_last a g l = at anew going_on a g
    where
      place : ℕ
      place = placed (pieces t) (place_in s t) d

      within : place < pieces t
      within = mod-lt (place_in s t + d) (ltb-true 0 (pieces t) c)

      at : (anew going_on : Bool) → eqb place 0 ≡ anew → (eqb d 1 && runs_in s t) ≡ going_on
          → told_of (received (reader_in s) t (moves anew going_on at_last count place (track_in s t).gathered x)) o
          (moves_on s t anew going_on at_last count place x)
          ≡ moves_to s t anew going_on at_last count place x o
      at true going_on a g =
          gathers_formed at_last place (x ∷ []) within l
          (ap (λ (n : ℕ). chunks 118 n (drop (gather_at t) s) ++ (x ∷ [])) (eqb-true place 0 a))
      at false true a g =
          let h = both (eqb d 1) (runs_in s t) g in
          let one : d ≡ 1 = eqb-true d 1 h.0 in
          let next : place ≡ suc (place_in s t) =
          ap (placed (pieces t) (place_in s t)) one
          ∙ follows (place_in s t) (pieces t) (mod-lt (get_or s (place_at t) 0) (ltb-true 0 (pieces t) c)) (rw one at a) in
          gathers_formed at_last place ((track_in s t).gathered ++ (x ∷ [])) within l
          (rw h.1 (ap (λ (n : ℕ). chunks 118 n (drop (gather_at t) s) ++ (x ∷ [])) next))
      at false false a g = refl

  arrives_formed : (d : ℕ) (b : Bool)
      → told_of (received (reader_in s) t (arrives b (pieces t) (track_in s t) count d x)) o (arrives_on s t b count d x)
      ≡ arrives_to s t b count d x o
  unfolding received track_in
  arrives_formed d true = refl
  arrives_formed d false = moves_formed d _ _ _ refl refl refl

  pub arrived_formed : understood_to s (packet t count x) o ≡ arrived_to s t count x o
  unfolding understood understood_on arrived_on arrive reader_in track_in
  arrived_formed =
      subst
      (λ (k : Track (List ℕ)).
      told_of (received (reader_in s) t (arrive (pieces t) k count x)) o (arrived_on s t count x) ≡ arrived_to s t count x o)
      (sym own) (arrives_formed (distance (last_in s t) count) (eqb (distance (last_in s t) count) 0))
    where
      own : reader_in s t ≡ track_in s t
      own = ap (λ (b : Bool). cond b (track_in s t) (fresh (pieces t))) c
