-- What the reader hands out of one stream is what that stream's record finishes of that stream's packets, where sound, at the listed
-- length; the packets of other streams, and frames that are none, do not count.
-- Assumes nothing.
use mathlib.Core.Path.{◌≡◌, refl, sym, ap, ◌∙◌, subst}
use mathlib.Core.Bool.{Bool, true, false, cond}
use mathlib.Core.List.{List, [], ◌∷◌}
use Prim.Native.Nat.{ℕ, ◌%◌, ◌/◌, ◌≤◌}
use native.Mathlib.Omega.{arith}
use lib.Dec.{eqb}
use lib.ListN.{take, drop}
use borrow.Author.Tests.{eqb-true, eq-eqb, le-ltb}
use Rattle.wire.specs.Wire.{be16}
use Rattle.paper.specs.Streams.{pieces, listed, carried}
use Rattle.paper.specs.Packets.{joined}
use Rattle.paper.specs.Queue.{replaced}
use Rattle.paper.specs.Reader.{ArrivalEffect, repeated, taken, finished, arrive, Packet, packet, not_carried, no_packet, well_formed, packet_of, sound, Reader, ReaderOutcome, reader_outcome, received, understood, reader_step}
use Rattle.paper.specs.Runs.{Call, readings}
use Rattle.delivery.specs.HandedOut.{handed_out, of}
use Rattle.polls.proofs.Arrivals.{run}

-- ---- what is kept of one stream

-- a packet of stream s before others: its count and body
abbrev pub mine : ℕ → Packet → List (ℕ × List ℕ) → List (ℕ × List ℕ)
mine s (packet t count x) l = cond (eqb t s) ((count, x) ∷ l) l
mine s not_carried l = l
mine s no_packet l = l

unfoldable pub packets_of : ℕ → List Call → List (ℕ × List ℕ)
packets_of s [] = []
packets_of s (x ∷ xs) = mine s (packet_of x.bytes) (packets_of s xs)

-- finished packets, tested and cut to the listed length
unfoldable pub trimmed : ℕ → List (List (List ℕ)) → List (List ℕ)
trimmed s [] = []
trimmed s (g ∷ gs) = cond (sound s (joined g)) (take (listed s) (joined g) ∷ trimmed s gs) (trimmed s gs)

abbrev pub Roomy : List Call → Type 0
Roomy [] = Unit {0}
Roomy (x ∷ xs) = (776 ≤ x.room) × Roomy xs

-- ---- the stream that a packet's bytes say

stream_inside : (f : List ℕ) (b d : Bool) (t count : ℕ) (x : List ℕ)
    → cond b (cond d (packet (be16 f 6 % 16) (be16 f 6 / 16) (drop 8 f)) not_carried) no_packet ≡ packet t count x → be16 f 6 % 16 ≡ t
stream_inside f true true t count x e = cc
stream_inside f true false t count x e = absurd (let z : ◌≡◌ {A = ℕ} 0 1 = cc in omega arith)
stream_inside f false d t count x e = absurd (let z : ◌≡◌ {A = ℕ} 0 1 = cc in omega arith)

pub stream-of : (f : List ℕ) (t count : ℕ) (x : List ℕ) → packet_of f ≡ packet t count x → be16 f 6 % 16 ≡ t
unfolding packet_of
stream-of f t count x e = stream_inside f (well_formed f) (carried (be16 f 6 % 16)) t count x e

-- ---- one call

-- what a call adds to what is handed out, before what later calls add
abbrev shows : ℕ → ReaderOutcome → (Reader → List (ℕ × List ℕ)) → List (ℕ × List ℕ)
shows t h rest = cond (eqb h.reply 1) ((t, h.out) ∷ rest h.next) (rest h.next)

module _ (s : ℕ) (rest : Reader → List (ℕ × List ℕ)) (l : List (ℕ × List ℕ))
    (ih : (q : Reader) → of s (rest q) ≡ trimmed s (run (pieces s) (q s) l)) (r : Reader) (count : ℕ) (x : List ℕ) where
  -- a packet of stream s
  own : (a : ArrivalEffect (List ℕ)) → arrive (pieces s) (r s) count x ≡ a
      → of s (shows s (received r s a) rest) ≡ trimmed s (run (pieces s) (r s) ((count, x) ∷ l))
  unfolding received run trimmed of replaced
  own repeated e = rw e (ih r)
  own (taken u) e = rw e (ih (replaced r s u) ∙ rw (eq-eqb s s refl))
  own (finished u g) e = rw e (at (sound s (joined g)))
    where
      left : of s (rest (replaced r s u)) ≡ trimmed s (run (pieces s) u l)
      left = ih (replaced r s u) ∙ rw (eq-eqb s s refl)

      at : (b : Bool)
          → of s (shows s (cond b (reader_outcome 1 (take (listed s) (joined g)) (replaced r s u)) (reader_outcome 23 [] (replaced r s u))) rest)
          ≡ cond b (take (listed s) (joined g) ∷ trimmed s (run (pieces s) u l)) (trimmed s (run (pieces s) u l))
      at true = rw (eq-eqb s s refl) (ap (λ m. take (listed s) (joined g) ∷ m) left)
      at false = left

  -- a packet of another stream
  other : (t : ℕ) → eqb t s ≡ false → (a : ArrivalEffect (List ℕ)) → of s (shows t (received r t a) rest) ≡ trimmed s (run (pieces s) (r s) l)
  unfolding received of replaced
  other t n repeated = ih r
  other t n (taken u) = ih (replaced r t u) ∙ rw n
  other t n (finished u g) = at (sound t (joined g))
    where
      left : of s (rest (replaced r t u)) ≡ trimmed s (run (pieces s) (r s) l)
      left = ih (replaced r t u) ∙ rw n

      at : (b : Bool)
          → of s (shows t (cond b (reader_outcome 1 (take (listed t) (joined g)) (replaced r t u)) (reader_outcome 23 [] (replaced r t u))) rest)
          ≡ trimmed s (run (pieces s) (r s) l)
      at true = rw n left
      at false = left

  either : (t : ℕ) (b : Bool) → eqb t s ≡ b
      → of s (shows t (received r t (arrive (pieces t) (r t) count x)) rest)
      ≡ trimmed s (run (pieces s) (r s) (cond b ((count, x) ∷ l) l))
  either t true e =
      subst
      (λ (u : ℕ).
      of s (shows u (received r u (arrive (pieces u) (r u) count x)) rest) ≡ trimmed s (run (pieces s) (r s) ((count, x) ∷ l)))
      (sym (eqb-true t s e)) (own (arrive (pieces s) (r s) count x) refl)
  either t false e = other t e (arrive (pieces t) (r t) count x)

-- a frame, by what it is
by_packet : (s : ℕ) (rest : Reader → List (ℕ × List ℕ)) (l : List (ℕ × List ℕ))
    → ((q : Reader) → of s (rest q) ≡ trimmed s (run (pieces s) (q s) l)) → (r : Reader) (f : List ℕ) (p : Packet) → packet_of f ≡ p
    → of s (shows (be16 f 6 % 16) (understood r p) rest) ≡ trimmed s (run (pieces s) (r s) (mine s p l))
unfolding understood
by_packet s rest l ih r f (packet t count x) e = rw (stream-of f t count x e) (either s rest l ih r count x t (eqb t s) refl)
by_packet s rest l ih r f not_carried e = ih r
by_packet s rest l ih r f no_packet e = ih r

pub has_room : (r : Reader) (f : List ℕ) (room : ℕ) → 776 ≤ room → reader_step r f room ≡ understood r (packet_of f)
unfolding reader_step
has_room r f room h = rw (le-ltb room 776 h)

-- THE LAW: of one stream, what is handed out comes of its packets alone
pub reads_one : (s : ℕ) (xs : List Call) → Roomy xs → (r : Reader)
    → of s (handed_out xs (readings r xs)) ≡ trimmed s (run (pieces s) (r s) (packets_of s xs))
unfolding readings handed_out packets_of of run trimmed
reads_one s [] h r = refl
reads_one s (x ∷ xs) h r =
    rw (has_room r x.bytes x.room h.0)
    (by_packet s (λ q. handed_out xs (readings q xs)) (packets_of s xs) (λ q. reads_one s xs h.1 q) r x.bytes (packet_of x.bytes) refl)
