-- "Only 23 changes state; no refusal writes output, and bytes past what is handed out stay." Of calls on lent bytes.
-- Assumes nothing.
use mathlib.Core.Path.{◌≡◌, refl, sym, ap, subst}
use mathlib.Core.Bool.{Bool, true, false, cond, ◌&&◌}
use mathlib.Core.List.{List, []}
use mathlib.Core.Logic.{◌⊎◌, inl, inr}
use Prim.Native.Nat.{ℕ, ◌-◌, ◌≤◌}
use native.Mathlib.Omega.{arith}
use lib.Dec.{eqb, ltb, leb, leb→le}
use lib.ListN.{length, take, length-take}
use borrow.Author.Tests.{ltb-false}
use Rattle.wire.specs.Wire.{put}
use Rattle.wire.proofs.Runs.{length-put}
use Rattle.paper.specs.Streams.{pieces, listed, carried}
use Rattle.paper.specs.Packets.{joined}
use Rattle.paper.specs.Queue as Queue
use Rattle.paper.specs.Reader.{Track, fresh, distance, placed, ArrivalEffect, repeated, taken, finished, gathers, moves, arrives, arrive, Packet, packet, not_carried, no_packet, packet_of, sound, Reader, ReaderOutcome, reader_outcome, received, understood, reader_step}
use Rattle.lent.specs.Told.{Res, res}
use Rattle.paper.proofs.Table.{rule}
use Rattle.shelf.specs.View.{last_in, track_in, reader_in}
use Rattle.shelf.specs.Range.{fit}
use Rattle.shelf.proofs.Packets.{Shaped, shaped, Any}
use Rattle.shelf.specs.Received.{arrives_on, arrived_on, understood_on, received_on, told_of, read_of}

-- ---- an unfit state

pub unfit : (s f o : List ℕ) → fit s ≡ false → read_of s f o ≡ res 25 o s
unfolding read_of
unfit s f o e = rw e

-- ---- "Only 23 changes state"

-- replies with which a piece is taken into account
abbrev pub Moved : ℕ → Type 0
Moved n = (n ≡ 0) ⊎ ((n ≡ 1) ⊎ (n ≡ 23))

module _ (r : Reader) (t : ℕ) where
  handed : (b : Bool) (o : List ℕ) (q : Reader) → Moved (cond b (reader_outcome 1 o q) (reader_outcome 23 [] q)).reply
  handed true o q = inr (inl refl)
  handed false o q = inr (inr refl)

  gathers-moved : (at_last : Bool) (count place : ℕ) (g : List (List ℕ)) → Moved (received r t (gathers at_last count place g)).reply
  unfolding received
  gathers-moved true count place g = handed (sound t (joined g)) _ _
  gathers-moved false count place g = inl refl

  moves-moved : (anew going_on at_last : Bool) (count place : ℕ) (g : List (List ℕ)) (x : List ℕ)
      → Moved (received r t (moves anew going_on at_last count place g x)).reply
  unfolding received
  moves-moved true going_on at_last count place g x = gathers-moved at_last count place _
  moves-moved false true at_last count place g x = gathers-moved at_last count place _
  moves-moved false false at_last count place g x = inl refl

  arrives-moved : (k : ℕ) (q : Track (List ℕ)) (count d : ℕ) (x : List ℕ)
      → Moved (received r t (arrives false k q count d x)).reply
  arrives-moved k q count d x =
      moves-moved (eqb (placed k q.place d) 0) (eqb d 1 && q.running) (eqb (placed k q.place d) (k - 1)) count
      (placed k q.place d) q.gathered x

-- bytes that stayed, or a reply of those
abbrev pub Kept : ℕ → List ℕ → List ℕ → Type 0
Kept n x s = (x ≡ s) ⊎ Moved n

packet-kept : (s : List ℕ) (t count : ℕ) (x : List ℕ) → carried t ≡ true
    → Kept (received (reader_in s) t (arrive (pieces t) (reader_in s t) count x)).reply (arrived_on s t count x) s
unfolding arrived_on arrive reader_in track_in
packet-kept s t count x c =
    subst (λ (k : Track (List ℕ)). Kept (received (reader_in s) t (arrive (pieces t) k count x)).reply (arrived_on s t count x) s)
    (sym own) (at (eqb (distance (last_in s t) count) 0))
  where
    own : reader_in s t ≡ track_in s t
    own = ap (λ (b : Bool). cond b (track_in s t) (fresh (pieces t))) c

    at : (b : Bool)
        → Kept (received (reader_in s) t (arrives b (pieces t) (track_in s t) count (distance (last_in s t) count) x)).reply
        (arrives_on s t b count (distance (last_in s t) count) x) s
    at true = inl refl
    at false = inr (arrives-moved (reader_in s) t (pieces t) (track_in s t) count (distance (last_in s t) count) x)

understood-kept : (s : List ℕ) (p : Packet) → Shaped Any p → Kept (understood (reader_in s) p).reply (understood_on s p) s
unfolding understood understood_on
understood-kept s (packet t count x) c = packet-kept s t count x c.0
understood-kept s not_carried c = inl refl
understood-kept s no_packet c = inl refl

pub kept : (s f o : List ℕ) → Kept (read_of s f o).reply (read_of s f o).state s
unfolding read_of received_on reader_step
kept s f o = at (fit s) (ltb (length o) 776)
  where
    at : (b w : Bool)
        → Kept
        (cond b (told_of (cond w (reader_outcome 24 [] (reader_in s)) (understood (reader_in s) (packet_of f))) o (cond w s (understood_on s (packet_of f)))) (res 25 o s)).reply
        (cond b (told_of (cond w (reader_outcome 24 [] (reader_in s)) (understood (reader_in s) (packet_of f))) o (cond w s (understood_on s (packet_of f)))) (res 25 o s)).state
        s
    at true true = inl refl
    at true false = understood-kept s (packet_of f) (shaped Any f tt)
    at false w = inl refl

-- ---- "no refusal writes output, and bytes past what is handed out stay"

-- what is written, under a reply: nothing, unless it is handed out, and at most 776 bytes
abbrev Written : ReaderOutcome → Type 0
Written h = (h.out ≡ []) ⊎ ((h.reply ≡ 1) × (length h.out ≤ 776))

pub listed_most : (t : ℕ) → listed t ≤ 776
listed_most t = leb→le _ _ (rule (λ r. true) (λ r. leb r.listed 776) tt (λ k. tt) t refl)

received-written : (r : Reader) (t : ℕ) (a : ArrivalEffect (List ℕ)) → Written (received r t a)
unfolding received
received-written r t repeated = inl refl
received-written r t (taken q) = inl refl
received-written r t (finished q g) = at (sound t (joined g))
  where
    at : (b : Bool) → Written (cond b (reader_outcome 1 (take (listed t) (joined g)) (Queue.replaced r t q)) (reader_outcome 23 [] (Queue.replaced r t q)))
    at true = inr (refl, omega (arith, length-take (listed t) (joined g), listed_most t))
    at false = inl refl

understood-written : (r : Reader) (p : Packet) → Written (understood r p)
unfolding understood
understood-written r (packet t count x) = received-written r t (arrive (pieces t) (r t) count x)
understood-written r not_carried = inl refl
understood-written r no_packet = inl refl

-- An output is as it was, or the reply is 1; in any case it is as long as it was.
pub record Output (r : Res) (o : List ℕ) : Type 0 where
  pub stays : (r.out ≡ o) ⊎ (r.reply ≡ 1)
  pub long : length r.out ≡ length o

-- what is written at an output's front
fronted : (h : ReaderOutcome) (o s : List ℕ) → Written h → (h.reply ≡ 1 → 776 ≤ length o) → Output (told_of h o s) o
fronted h o s (inl e) w =
    let same : put o 0 h.out ≡ o = ap (put o 0) e in
    record { stays = inl same; long = ap length same }
fronted h o s (inr e) w =
    record { stays = inr e.0; long = length-put o 0 h.out (omega (arith, w e.0, e.1)) }

pub output : (s f o : List ℕ) → Output (read_of s f o) o
unfolding read_of reader_step
output s f o = at (fit s) (ltb (length o) 776) refl
  where
    at : (b w : Bool) → ltb (length o) 776 ≡ w
        → Output
        (cond b (told_of (cond w (reader_outcome 24 [] (reader_in s)) (understood (reader_in s) (packet_of f))) o (received_on s f (length o))) (res 25 o s)) o
    at true true e = record { stays = inl refl; long = refl }
    at true false e =
        fronted (understood (reader_in s) (packet_of f)) o (received_on s f (length o)) (understood-written (reader_in s) (packet_of f))
        (λ h. ltb-false (length o) 776 e)
    at false w e = record { stays = inl refl; long = refl }
