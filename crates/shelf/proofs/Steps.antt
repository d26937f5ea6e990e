-- One call on lent bytes that fit is one step of document 01's reader that they hold: the same reply, its bytes at the output's
-- front, bytes that hold the reader it leaves, and fit, and bytes past the reader's as they were. Assumes nothing.
use mathlib.Core.Path.{◌≡◌, refl, sym, ap, ◌∙◌, subst, fun_ext}
use mathlib.Core.Bool.{Bool, true, false, cond, ◌&&◌}
use mathlib.Core.List.{List, [], ◌∷◌, ◌++◌}
use Prim.Native.Nat.{ℕ, suc, ◌+◌, ◌≤◌, ◌<◌}
use native.Mathlib.Nat.{mod-lt}
use native.Mathlib.Omega.{arith}
use lib.Dec.{eqb, ltb}
use lib.ListN.{length, get_or, drop}
use borrow.Author.Tests.{ltb-true, eqb-true, eqb-false}
use Rattle.wire.specs.Wire.{put, Bytes}
use Rattle.paper.specs.Streams.{pieces, carried}
use Rattle.paper.specs.Packets.{chunks, joined}
use Rattle.paper.specs.Queue as Queue
use Rattle.paper.specs.Reader.{Track, fresh, distance, placed, gathers, moves, arrives, arrive, Packet, packet, not_carried, no_packet, packet_of, sound, Reader, reader_outcome, received, understood, reader_step}
use Rattle.lent.proofs.Same.{be16-same}
use Rattle.paper.proofs.Table.{Carried, carried_rules}
use Rattle.shelf.specs.Layout.{reader_mark, place_at, gather_at, piece_at, reader_bytes}
use Rattle.shelf.specs.View.{last_in, place_in, runs_in, track_in, reader_in}
use Rattle.shelf.specs.Range.{Fit}
use Rattle.shelf.specs.Received.{recorded_on, gathers_on, moves_on, arrives_on, arrived_on, understood_on, received_on, read_of}
use Rattle.shelf.specs.Runs.{Left, Agrees}
use Rattle.lent.specs.Fitting.{mark_at}
use Rattle.wire.proofs.Both.{both}
use Rattle.lent.proofs.Fitting.{true_fitting}
use Rattle.shelf.proofs.Packets.{Shaped, shaped}
use Rattle.shelf.proofs.Gathered.{piece_snoc, Elsewhere, elsewhere_trans, record_elsewhere, body-elsewhere, record_track, track_same, follows}

-- nothing stored
untouched : (s : List ℕ) → Fit s → Left s s (reader_in s)
untouched s f = record { held = refl; fits = f; long = refl; past = refl }

-- ---- one stream's record anew

module _ (s : List ℕ) (f : Fit s) (t : ℕ) (c : carried t ≡ true) where
  left : (x : List ℕ) (k : Track (List ℕ)) → Elsewhere x s t → track_in x t ≡ k → Left x s (Queue.replaced (reader_in s) t k)
  unfolding reader_in Queue.replaced
  left x k e h =
      record {
        held = fun_ext (λ u. at u (eqb t u) refl (carried u) refl);
        fits =
            record {
              whole = omega (arith, f.whole, e.long);
              mark = be16-same e.mark mark_at (omega arith) (omega arith) ∙ f.mark;
            };
        long = e.long;
        past = e.past;
      }
    where
      own : cond (carried t) (track_in x t) (fresh (pieces t)) ≡ k
      own = ap (λ (b : Bool). cond b (track_in x t) (fresh (pieces t))) c ∙ h

      at : (u : ℕ) (a : Bool) → eqb t u ≡ a → (b : Bool) → carried u ≡ b
          → cond (carried u) (track_in x u) (fresh (pieces u)) ≡ cond a k (cond (carried u) (track_in s u) (fresh (pieces u)))
      at u true p b q = subst (λ (n : ℕ). cond (carried n) (track_in x n) (fresh (pieces n)) ≡ k) (eqb-true t u p) own
      at u false p true q =
          let r = carried_rules u q in
          rw q
          (track_same x s e.long f.whole u (ltb-true 0 (pieces u) q) (e.tracks u r.small (eqb-false t u p)) r.small r.few
          (e.gathered u r.small (eqb-false t u p)))
      at u false p false q = rw q

  -- ---- a piece arrives

  r : Carried t
  r = carried_rules t c

  whole : reader_bytes ≤ length s
  whole = f.whole

  module _ (count : ℕ) (small : count < 4096) (x : List ℕ) (sized : length x ≡ 118) where
    -- "otherwise it is dropped"
    dropped_left : (place : ℕ) → place < pieces t
        → Left (recorded_on s t count place 0) s
        (Queue.replaced (reader_in s) t (record { last = count; place = place; running = false; gathered = [] }))
    dropped_left place h =
        left (recorded_on s t count place 0) _ (record_elsewhere s whole t r.small count place 0)
        (record_track s whole t r.small count place 0 small h r.few)

    -- what handing out or refusing to leaves
    handed : (b : Bool) (o : List ℕ) (q : Reader) → (cond b (reader_outcome 1 o q) (reader_outcome 23 [] q)).next ≡ q
    handed true o q = refl
    handed false o q = refl

    gathered-left : (b : Bool) (place : ℕ) (g : List (List ℕ)) → place < pieces t
        → chunks 118 place (drop (gather_at t) s) ++ (x ∷ []) ≡ g
        → Left (gathers_on s t b count place x) s (received (reader_in s) t (gathers b count place g)).next
    unfolding gathers_on received
    gathered-left b place g h e = at b
      where
        y : List ℕ
        y = put s (piece_at t place) x

        body : Elsewhere y s t
        body = body-elsewhere s whole t r.small place x (omega (arith, r.few)) sized

        long : reader_bytes ≤ length y
        long = omega (arith, body.long, whole)

        all : (mark : ℕ) → Elsewhere (recorded_on y t count place mark) s t
        all mark = elsewhere_trans _ y s t (record_elsewhere y long t r.small count place mark) body

        snoc : chunks 118 (suc place) (drop (gather_at t) y) ≡ g
        snoc = piece_snoc s (gather_at t) place x sized (omega (arith, r.few, r.small, whole)) ∙ e

        at : (b : Bool) → Left (recorded_on y t count place (cond b 0 1)) s (received (reader_in s) t (gathers b count place g)).next
        at true =
            subst (λ (q : Reader). Left (recorded_on y t count place 0) s q) (sym (handed (sound t (joined g)) _ _))
            (left (recorded_on y t count place 0) _ (all 0) (record_track y long t r.small count place 0 small h r.few))
        at false =
            left (recorded_on y t count place 1) _ (all 1)
            (record_track y long t r.small count place 1 small h r.few
            ∙ ap (λ (l : List (List ℕ)). record { last = count; place = place; running = true; gathered = l }) snoc)

    moved-left : (d : ℕ) (anew going_on at_last : Bool) → eqb (placed (pieces t) (place_in s t) d) 0 ≡ anew
        → (eqb d 1 && runs_in s t) ≡ going_on
        → Left (moves_on s t anew going_on at_last count (placed (pieces t) (place_in s t) d) x) s
        (received (reader_in s) t
        (moves anew going_on at_last count (placed (pieces t) (place_in s t) d) (track_in s t).gathered x)).next
    unfolding received track_in
    moved-left d anew going_on at_last = at anew going_on
      where
        place : ℕ
        place = placed (pieces t) (place_in s t) d

        within : place < pieces t
        within = mod-lt (place_in s t + d) (ltb-true 0 (pieces t) c)

        at : (anew going_on : Bool) → eqb place 0 ≡ anew → (eqb d 1 && runs_in s t) ≡ going_on
            → Left (moves_on s t anew going_on at_last count place x) s
            (received (reader_in s) t (moves anew going_on at_last count place (track_in s t).gathered x)).next
        at true going_on a g =
            gathered-left at_last place (x ∷ []) within
            (ap (λ (n : ℕ). chunks 118 n (drop (gather_at t) s) ++ (x ∷ [])) (eqb-true place 0 a))
        at false true a g =
            let h = both (eqb d 1) (runs_in s t) g in
            let one : d ≡ 1 = eqb-true d 1 h.0 in
            let next : place ≡ suc (place_in s t) =
            ap (placed (pieces t) (place_in s t)) one
            ∙ follows (place_in s t) (pieces t) (mod-lt (get_or s (place_at t) 0) (ltb-true 0 (pieces t) c)) (rw one at a) in
            gathered-left at_last place ((track_in s t).gathered ++ (x ∷ [])) within
            (rw h.1 (ap (λ (n : ℕ). chunks 118 n (drop (gather_at t) s) ++ (x ∷ [])) next))
        at false false a g = dropped_left place within

    arrives-left : (d : ℕ) (b : Bool)
        → Left (arrives_on s t b count d x) s (received (reader_in s) t (arrives b (pieces t) (track_in s t) count d x)).next
    unfolding received track_in
    arrives-left d true = untouched s f
    arrives-left d false = moved-left d _ _ _ refl refl

    pub arrived-left : Left (arrived_on s t count x) s (received (reader_in s) t (arrive (pieces t) (reader_in s t) count x)).next
    unfolding arrived_on arrive reader_in track_in
    arrived-left =
        subst (λ (k : Track (List ℕ)). Left (arrived_on s t count x) s (received (reader_in s) t (arrive (pieces t) k count x)).next)
        (sym own) (arrives-left (distance (last_in s t) count) (eqb (distance (last_in s t) count) 0))
      where
        own : reader_in s t ≡ track_in s t
        own = ap (λ (b : Bool). cond b (track_in s t) (fresh (pieces t))) c

-- ---- a packet's fields

-- a count has 12 bits
abbrev pub Counts : ℕ → Type 0
Counts n = n < 4096

-- ---- one call

pub understood-left : (s : List ℕ) → Fit s → (p : Packet) → Shaped Counts p → Left (understood_on s p) s (understood (reader_in s) p).next
unfolding understood_on understood
understood-left s f (packet t count x) h = arrived-left s f t h.0 count h.1 x h.2
understood-left s f not_carried h = untouched s f
understood-left s f no_packet h = untouched s f

pub received-left : (s f : List ℕ) (room : ℕ) → Fit s → Bytes f
    → Left (received_on s f room) s (reader_step (reader_in s) f room).next
unfolding received_on reader_step
received-left s f room g b = at (ltb room 776)
  where
    at : (w : Bool) → Left (cond w s (understood_on s (packet_of f))) s
        (cond w (reader_outcome 24 [] (reader_in s)) (understood (reader_in s) (packet_of f))).next
    at true = untouched s g
    at false = understood-left s g (packet_of f) (shaped Counts f (omega (arith, b 6, b 7)))

-- one call is one step
pub steps : (s f o : List ℕ) → Fit s → Bytes f → Agrees (read_of s f o) (reader_step (reader_in s) f (length o)) o s
unfolding read_of
steps s f o g b =
    let l = received-left s f (length o) g b in
    rw (true_fitting reader_bytes reader_mark s g)
    (record { reply = refl; out = refl; held = l.held; fits = l.fits; long = l.long; past = l.past })

pub received-view : (s f o : List ℕ) → Fit s → Bytes f → reader_in (read_of s f o).state ≡ (reader_step (reader_in s) f (length o)).next
received-view s f o g b = (steps s f o g b).held
