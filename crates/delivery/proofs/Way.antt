-- The way from the polls to the reader: of each stream the arrivals are repeats of the last one or later pieces, and the packets that
-- the reader finds among the frames are those arrivals, whatever else comes.
-- Assumes nothing.
use mathlib.Core.Path.{◌≡◌, refl, sym, ap, ◌∙◌, subst}
use mathlib.Core.Logic.{◌⊎◌, inl, inr}
use mathlib.Core.Bool.{Bool, true, false, cond, false≢true}
use mathlib.Core.Option.{Option, none, some}
use mathlib.Core.List.{List, [], ◌∷◌, ◌++◌, map}
use Prim.{Dec, yes, no}
use Prim.Native.Nat.{ℕ, zero, suc, ◌+◌, ◌%◌, ◌≤◌, ◌<◌}
use native.Mathlib.Decide.{dec_le}
use native.Mathlib.Omega.{arith}
use lib.Dec.{eqb, lit≤}
use lib.ListN.{length, get_or, take}
use borrow.Author.Tests.{eqb-true, eqb-false, eq-eqb}
use Rattle.paper.specs.Streams.{listed}
use Rattle.paper.specs.Packets.{joined}
use Rattle.paper.specs.Queue.{replaced}
use Rattle.paper.specs.Reader as reader
use Rattle.paper.specs.Reader.{Packet, packet, not_carried, no_packet, packet_of, sound, Reader, reader_outcome, received, understood, reader_start}
use Rattle.paper.specs.Runs.{Call}
use Rattle.polls.specs.Polls.{Polled, polled_of}
use Rattle.delivery.specs.Chosen.{Chosen, Arrival, own, strange, own_of, is_of, NoOthers, Gaps}
use Rattle.delivery.specs.HandedOut.{Given}
use Rattle.delivery.specs.Fates.{Fate, lost, came, again, noise, repeats, arrivals_from, NoPacket, Quiet, fates_of}
use Rattle.polls.proofs.Arrivals.{In, Arrives, piece}
use Rattle.delivery.proofs.Reading.{mine, packets_of, Roomy, has_room}
use Rattle.polls.proofs.Polled.{Fine, Genuine, Genuines}

-- ---- what is known of arrivals

abbrev pub AllGenuine : List Arrival → Type 0
AllGenuine [] = Unit {0}
AllGenuine (own p ∷ ys) = Genuine p × AllGenuine ys
AllGenuine (strange f ∷ ys) = AllGenuine ys

-- ---- a beginning of what arrives is what arrives by some fates

prefix_repeats : (n : ℕ) (o : Option Polled) (t : ℕ) (ys : List Arrival) (from : List Fate → List Arrival)
    → ((fs : List Fate) → from (again t ∷ fs) ≡ repeats o (from fs)) → ((m : ℕ) → (fs : List Fate) × (take m ys ≡ from fs))
    → (fs : List Fate) × (take (suc n) (repeats o ys) ≡ from fs)
prefix_repeats n none t ys from e r = r (suc n)
prefix_repeats n (some p) t ys from e r = (again t ∷ (r n).0, ap (λ l. own p ∷ l) (r n).1 ∙ sym (e (r n).0))

prefix_comes : (n : ℕ) (y : Arrival) (ys : List Arrival) (from later : List Fate → List Arrival)
    → ((fs : List Fate) → from (came ∷ fs) ≡ y ∷ later fs) → (fs : List Fate) × (take n ys ≡ later fs)
    → (fs : List Fate) × (take (suc n) (y ∷ ys) ≡ from fs)
prefix_comes n y ys from later e r = (came ∷ r.0, ap (λ l. y ∷ l) r.1 ∙ sym (e r.0))

pub prefix : (fates : List Fate) (n : ℕ) (last : ℕ → Option Polled) (ps : List Polled)
    → (fs : List Fate) × (take n (arrivals_from last ps fates) ≡ arrivals_from last ps fs)
unfolding arrivals_from
prefix [] zero last ps = ([], refl)
prefix [] (suc n) last ps = ([], refl)
prefix (f ∷ fates) zero last ps = ([], refl)
prefix (lost ∷ fates) (suc n) last [] = prefix fates (suc n) last []
prefix (lost ∷ fates) (suc n) last (p ∷ ps) = let r = prefix fates (suc n) last ps in (lost ∷ r.0, r.1)
prefix (came ∷ fates) (suc n) last [] = prefix fates (suc n) last []
prefix (came ∷ fates) (suc n) last (p ∷ ps) =
    prefix_comes n (own p) _ (arrivals_from last (p ∷ ps)) _ (λ fs. refl) (prefix fates n _ ps)
prefix (again t ∷ fates) (suc n) last ps =
    prefix_repeats n (last t) t (arrivals_from last ps fates) (arrivals_from last ps) (λ fs. refl) (λ m. prefix fates m last ps)
prefix (noise f ∷ fates) (suc n) last ps = let r = prefix fates n last ps in (noise f ∷ r.0, ap (λ l. strange f ∷ l) r.1)

-- ---- what is chosen of polled packets, in order

-- some of more
chosen_skip : (p : Polled) (ps qs : List Polled) → Chosen ps qs → Chosen (p ∷ ps) qs
chosen_skip p ps [] c = tt
chosen_skip p ps (q ∷ qs) c = inl c

-- all of them
pub chosen-all : (ps : List Polled) → Chosen ps ps
chosen-all [] = tt
chosen-all (p ∷ ps) = inr (refl, chosen_skip p ps ps (chosen-all ps))

chosen-past : (l p : Polled) (ps qs : List Polled) → Chosen (l ∷ ps) qs → Chosen (l ∷ p ∷ ps) qs
chosen-past l p ps [] c = tt
chosen-past l p ps (q ∷ qs) (inl c) = inl (inl c)
chosen-past l p ps (q ∷ qs) (inr c) = inr (c.0, chosen-past l p ps qs c.1)

-- a beginning of what is chosen is chosen
pub chosen-front : (ps qs rs : List Polled) → Chosen ps (qs ++ rs) → Chosen ps qs
chosen-front ps [] rs c = tt
chosen-front [] (q ∷ qs) rs c = absurd c
chosen-front (p ∷ ps) (q ∷ qs) rs (inl c) = inl (chosen-front ps (q ∷ qs) rs c)
chosen-front (p ∷ ps) (q ∷ qs) rs (inr c) = inr (c.0, chosen-front (p ∷ ps) qs rs c.1)

-- ---- what comes by fates

-- the last arrival of a stream t is of stream t, and genuine
abbrev Mine : ℕ → Option Polled → Type 0
Mine t none = Unit {0}
Mine t (some p) = (p.stream ≡ t) × Genuine p

mine_put : (last : ℕ → Option Polled) (p : Polled) → Genuine p → ((t : ℕ) → Mine t (last t)) → (t : ℕ)
    → Mine t (replaced last p.stream (some p) t)
unfolding replaced
mine_put last p g h t = at (eqb p.stream t) refl
  where
    at : (b : Bool) → eqb p.stream t ≡ b → Mine t (cond b (some p) (last t))
    at true e = (eqb-true p.stream t e, g)
    at false e = h t

-- every packet that arrives is genuine
genuine_repeats : (t : ℕ) (o : Option Polled) (ys : List Arrival) → Mine t o → AllGenuine ys → AllGenuine (repeats o ys)
genuine_repeats t none ys m h = h
genuine_repeats t (some p) ys m h = (m.1, h)

genuine_all : (fates : List Fate) (last : ℕ → Option Polled) (ps : List Polled) → ((t : ℕ) → Mine t (last t)) → Genuines ps
    → AllGenuine (arrivals_from last ps fates)
unfolding arrivals_from
genuine_all [] last ps m g = tt
genuine_all (lost ∷ fs) last [] m g = genuine_all fs last [] m g
genuine_all (lost ∷ fs) last (p ∷ ps) m g = genuine_all fs last ps m g.1
genuine_all (came ∷ fs) last [] m g = genuine_all fs last [] m g
genuine_all (came ∷ fs) last (p ∷ ps) m g =
    (g.0, genuine_all fs _ ps (mine_put last p g.0 m) g.1)
genuine_all (again t ∷ fs) last ps m g =
    genuine_repeats t (last t) (arrivals_from last ps fs) (m t) (genuine_all fs last ps m g)
genuine_all (noise y ∷ fs) last ps m g = genuine_all fs last ps m g

module _ (s : ℕ) where
  -- what may still come of stream s: the last arrival again, and what is not polled yet
  abbrev left : Option Polled → List Polled → List Polled
  left none ps = ps
  left (some l) ps = l ∷ ps

  loses : (p : Polled) (o : Option Polled) (ps qs : List Polled) (b : Bool) → Chosen (left o ps) qs → Chosen (left o (cond b (p ∷ ps) ps)) qs
  loses p none ps qs true c = chosen_skip p ps qs c
  loses p (some l) ps qs true c = chosen-past l p ps qs c
  loses p o ps qs false c = c

  comes : (p : Polled) (o : Option Polled) (ps qs : List Polled) (b : Bool) → Chosen (left (cond b (some p) o) ps) qs
      → Chosen (left o (cond b (p ∷ ps) ps)) (cond b (p ∷ qs) qs)
  comes p none ps qs true c = inr (refl, c)
  comes p (some l) ps qs true c = inl (inr (refl, c))
  comes p o ps qs false c = c

  repeated : (t : ℕ) (o : Option Polled) (ps : List Polled) (ys : List Arrival) → (last : ℕ → Option Polled) → last t ≡ o → Mine t o
      → Chosen (left (last s) ps) (own_of s ys) → Chosen (left (last s) ps) (own_of s (repeats o ys))
  unfolding own_of
  repeated t none ps ys last e m c = c
  repeated t (some p) ps ys last e m c = at (eqb p.stream s) refl
    where
      at : (b : Bool) → eqb p.stream s ≡ b → Chosen (left (last s) ps) (cond b (p ∷ own_of s ys) (own_of s ys))
      at true h =
          let here : last s ≡ some p = ap last (sym (eqb-true p.stream s h) ∙ m.0) ∙ e in
          rw here (inr (refl, rw here at c))
      at false h = c

  hears : (fates : List Fate) (last : ℕ → Option Polled) (ps : List Polled) → ((t : ℕ) → Mine t (last t)) → Genuines ps
      → Chosen (left (last s) (polled_of s ps)) (own_of s (arrivals_from last ps fates))
  unfolding arrivals_from own_of polled_of replaced
  hears [] last ps m g = tt
  hears (lost ∷ fs) last [] m g = hears fs last [] m g
  hears (lost ∷ fs) last (p ∷ ps) m g =
      loses p (last s) (polled_of s ps) (own_of s (arrivals_from last ps fs)) (eqb p.stream s) (hears fs last ps m g.1)
  hears (came ∷ fs) last [] m g = hears fs last [] m g
  hears (came ∷ fs) last (p ∷ ps) m g =
      comes p (last s) (polled_of s ps) (own_of s (arrivals_from (replaced last p.stream (some p)) ps fs)) (eqb p.stream s)
      (hears fs (replaced last p.stream (some p)) ps (mine_put last p g.0 m) g.1)
  hears (again t ∷ fs) last ps m g =
      repeated t (last t) (polled_of s ps) (arrivals_from last ps fs) last refl (m t) (hears fs last ps m g)
  hears (noise y ∷ fs) last ps m g = hears fs last ps m g

  -- from nothing that arrived
  pub arrivals-chosen : (fates : List Fate) (ps : List Polled) → Genuines ps
      → Chosen (polled_of s ps) (own_of s (arrivals_from (λ t. none) ps fates)) × AllGenuine (arrivals_from (λ t. none) ps fates)
  arrivals-chosen fates ps g = (hears fates (λ t. none) ps (λ t. tt) g, genuine_all fates (λ t. none) ps (λ t. tt) g)

module _ (s : ℕ) (H : List (List ℕ)) where
  -- each is the last one once more, or a later one; H has its body under its number
  abbrev pub Told : ℕ → List Polled → Type 0
  Told lo [] = Unit {0}
  Told lo (p ∷ ps) =
      ((suc p.number ≡ lo) ⊎ (lo ≤ p.number)) × (p.number < length H)
      × (packet_of p.bytes ≡ packet s (p.number % 4096) (get_or H p.number [])) × Told (suc p.number) ps

  -- polled packets of which the first may have come already
  abbrev Open : ℕ → List Polled → Type 0
  Open lo [] = Unit {0}
  Open lo (p ∷ ps) =
      ((suc p.number ≡ lo) ⊎ (lo ≤ p.number)) × (p.number < length H)
      × (packet_of p.bytes ≡ packet s (p.number % 4096) (get_or H p.number [])) × Fine s H p.number ps

  opens : (lo lo' : ℕ) (ps : List Polled) → lo ≤ suc lo' → Fine s H lo' ps → Open lo ps
  opens lo lo' [] h f = tt
  opens lo lo' (p ∷ ps) h f = (at (dec_le lo p.number), f.1, f.2, f.3)
    where
      at : Dec (lo ≤ p.number) → (suc p.number ≡ lo) ⊎ (lo ≤ p.number)
      at (yes l) = inr l
      at (no l) = inl (omega (arith, f.0))

  chosen-told : (ps qs : List Polled) (lo : ℕ) → Open lo ps → Chosen ps qs → Told lo qs
  chosen-told ps [] lo f c = tt
  chosen-told [] (q ∷ qs) lo f c = absurd c
  chosen-told (p ∷ ps) (q ∷ qs) lo f (inl c) =
      chosen-told ps (q ∷ qs) lo (opens lo p.number ps (at f.0) f.3) c
    where
      at : (suc p.number ≡ lo) ⊎ (lo ≤ p.number) → lo ≤ suc p.number
      at (inl h) = omega arith
      at (inr h) = omega arith
  chosen-told (p ∷ ps) (q ∷ qs) lo f (inr c) =
      subst (λ (r : Polled). Told lo (r ∷ qs)) (sym c.0)
      (f.0, f.1, f.2, chosen-told (p ∷ ps) qs (suc p.number) (inl refl, f.1, f.2, f.3) c.1)

  -- THE WAY: what is chosen of a stream's polled packets
  pub told : (ps qs : List Polled) → Fine s H 0 ps → Chosen ps qs → Told 0 qs
  told ps qs f c = chosen-told ps qs 0 (opens 0 0 ps (omega arith) f) c

  -- ---- as the numbers of one stream's theorem

  pub told-arrives : (ps : List Polled) (lo : ℕ) → Told lo ps → Gaps lo (map (λ p. p.number) ps) → Arrives lo (map (λ p. p.number) ps)
  told-arrives [] lo t g = tt
  told-arrives (p ∷ ps) lo t g = (at t.0, told-arrives ps (suc p.number) t.3 g.1)
    where
      at : (suc p.number ≡ lo) ⊎ (lo ≤ p.number) → (suc p.number ≡ lo) ⊎ ((lo ≤ p.number) × (p.number ≤ lo + 4094))
      at (inl h) = inl h
      at (inr h) = inr (h, g.0)

  pub told_in : (ps : List Polled) (lo n : ℕ) → Told lo ps → In n (map (λ p. p.number) ps) → n < length H
  told_in [] lo n t i = absurd i
  told_in (p ∷ ps) lo n t (inl h) = rw h t.1
  told_in (p ∷ ps) lo n t (inr h) = told_in ps (suc p.number) n t.3 h

-- ---- what the reader finds among the frames

-- a packet's reply is none of 20 and 21
neither : (m : ℕ) → eqb m 20 ≡ false → eqb m 21 ≡ false → (m ≡ 20) ⊎ (m ≡ 21) → ⊥
neither m a b (inl h) = eqb-false m 20 a h
neither m a b (inr h) = eqb-false m 21 b h

packet-reply : (r : Reader) (s : ℕ) (a : reader.ArrivalEffect (List ℕ)) → ((received r s a).reply ≡ 20) ⊎ ((received r s a).reply ≡ 21) → ⊥
unfolding received
packet-reply r s reader.repeated h = neither 22 refl refl h
packet-reply r s (reader.taken t) h = neither 0 refl refl h
packet-reply r s (reader.finished t g) h = at (sound s (joined g)) h
  where
    o : Bool → reader.ReaderOutcome
    o b = cond b (reader_outcome 1 (take (listed s) (joined g)) (replaced r s t)) (reader_outcome 23 [] (replaced r s t))

    at : (b : Bool) → ((o b).reply ≡ 20) ⊎ ((o b).reply ≡ 21) → ⊥
    at true k = neither 1 refl refl k
    at false k = neither 23 refl refl k

-- so a frame that gets 20 or 21 is no packet of any stream
strange_other : (s : ℕ) (f : List ℕ) → NoPacket f → is_of s (packet_of f) ≡ true → ⊥
unfolding understood
strange_other s f h =
    by (packet_of f)
    (subst (λ (o : reader.ReaderOutcome). (o.reply ≡ 20) ⊎ (o.reply ≡ 21)) (has_room reader_start f 776 (lit≤ tt)) h)
  where
    by : (p : Packet) → ((understood reader_start p).reply ≡ 20) ⊎ ((understood reader_start p).reply ≡ 21) → is_of s p ≡ true → ⊥
    by (packet t count x) k e = absurd (packet-reply reader_start t _ k)
    by not_carried k e = false≢true e
    by no_packet k e = false≢true e

pub others_front : (s : ℕ) (ys zs : List Arrival) → NoOthers s (ys ++ zs) → NoOthers s ys
others_front s [] zs h = tt
others_front s (y ∷ ys) zs h = (h.0, others_front s ys zs h.1)

-- a frame that is no packet of stream s does not count
not_mine : (s : ℕ) (p : Packet) (l : List (ℕ × List ℕ)) → (is_of s p ≡ true → ⊥) → mine s p l ≡ l
not_mine s (packet t count x) l h = at (eqb t s) h
  where
    at : (b : Bool) → (b ≡ true → ⊥) → cond b ((count, x) ∷ l) l ≡ l
    at true k = absurd (k refl)
    at false k = refl
not_mine s not_carried l h = refl
not_mine s no_packet l h = refl

-- the packets of stream s that the reader finds in polled ones
unfoldable pub found : ℕ → List Polled → List (ℕ × List ℕ)
found s [] = []
found s (p ∷ ps) = mine s (packet_of p.bytes) (found s ps)

pub given-found : (s : ℕ) (ys : List Arrival) (xs : List Call) → Given ys xs → NoOthers s ys → packets_of s xs ≡ found s (own_of s ys)
unfolding packets_of found own_of
given-found s [] [] g h = refl
given-found s [] (x ∷ xs) g h = absurd g
given-found s (y ∷ ys) [] g h = absurd g
given-found s (own p ∷ ys) (x ∷ xs) g h =
    rw g.0 (at (eqb p.stream s) refl (given-found s ys xs g.2 h.1))
  where
    at : (b : Bool) → eqb p.stream s ≡ b → packets_of s xs ≡ found s (own_of s ys)
        → mine s (packet_of p.bytes) (packets_of s xs) ≡ found s (cond b (p ∷ own_of s ys) (own_of s ys))
    at true e k = ap (mine s (packet_of p.bytes)) k
    at false e k = not_mine s (packet_of p.bytes) (packets_of s xs) (λ t. eqb-false p.stream s e (h.0 t)) ∙ k
given-found s (strange f ∷ ys) (x ∷ xs) g h =
    rw g.0 (not_mine s (packet_of f) (packets_of s xs) h.0 ∙ given-found s ys xs g.2 h.1)

-- by fates every other frame is none of stream s
pub fates_others : (s : ℕ) (ys : List Arrival) → AllGenuine ys → Quiet ys → NoOthers s ys
fates_others s [] h q = tt
fates_others s (own p ∷ ys) h q = ((λ e. eqb-true p.stream s (rw h.0.2 at e)), fates_others s ys h.1 q)
fates_others s (strange f ∷ ys) h q = (strange_other s f q.0, fates_others s ys h q.1)

pub given_roomy : (ys : List Arrival) (xs : List Call) → Given ys xs → Roomy xs
given_roomy [] [] g = tt
given_roomy [] (x ∷ xs) g = absurd g
given_roomy (y ∷ ys) [] g = absurd g
given_roomy (y ∷ ys) (x ∷ xs) g = (g.1, given_roomy ys xs g.2)

pub told-pieces : (s : ℕ) (H : List (List ℕ)) (ps : List Polled) (lo : ℕ) → Told s H lo ps
    → found s ps ≡ map (piece (λ n. get_or H n [])) (map (λ p. p.number) ps)
unfolding found
told-pieces s H [] lo t = refl
told-pieces s H (p ∷ ps) lo t = rw (t.2, eq-eqb s s refl) (ap (λ l. (p.number % 4096, get_or H p.number []) ∷ l) (told-pieces s H ps (suc p.number) t.3))

-- ---- the same fates of a stream, the same arrivals of it

-- the last arrival of a stream is of that stream
abbrev OfStream : ℕ → Option Polled → Type 0
OfStream t none = Unit {0}
OfStream t (some p) = p.stream ≡ t

module _ (s : ℕ) where
  put-stream : (last : ℕ → Option Polled) (p : Polled) → ((t : ℕ) → OfStream t (last t)) → (t : ℕ)
      → OfStream t (replaced last p.stream (some p) t)
  unfolding replaced
  put-stream last p h t = at (eqb p.stream t) refl
    where
      at : (b : Bool) → eqb p.stream t ≡ b → OfStream t (cond b (some p) (last t))
      at true e = eqb-true p.stream t e
      at false e = h t

  repeats-same : (o : Option Polled) (ys zs : List Arrival) → own_of s ys ≡ own_of s zs → own_of s (repeats o ys) ≡ own_of s (repeats o zs)
  unfolding own_of
  repeats-same none ys zs e = e
  repeats-same (some p) ys zs e = ap (λ l. cond (eqb p.stream s) (p ∷ l) l) e

  repeats_other : (t : ℕ) (o : Option Polled) (ys : List Arrival) → OfStream t o → eqb t s ≡ false → own_of s (repeats o ys) ≡ own_of s ys
  unfolding own_of
  repeats_other t none ys m e = refl
  repeats_other t (some p) ys m e = rw (m, e)

  pub same_fates : (fates : List Fate) (last last' : ℕ → Option Polled) (ps : List Polled) → ((t : ℕ) → OfStream t (last t))
      → last s ≡ last' s
      → own_of s (arrivals_from last ps fates) ≡ own_of s (arrivals_from last' (polled_of s ps) (fates_of s ps fates))
  unfolding arrivals_from fates_of own_of polled_of replaced
  same_fates [] last last' ps m e = refl
  same_fates (lost ∷ fs) last last' [] m e = same_fates fs last last' [] m e
  same_fates (lost ∷ fs) last last' (p ∷ ps) m e = at (eqb p.stream s) (same_fates fs last last' ps m e)
    where
      at : (b : Bool) → own_of s (arrivals_from last ps fs) ≡ own_of s (arrivals_from last' (polled_of s ps) (fates_of s ps fs))
          → own_of s (arrivals_from last ps fs)
          ≡ own_of s (arrivals_from last' (cond b (p ∷ polled_of s ps) (polled_of s ps)) (cond b (lost ∷ fates_of s ps fs) (fates_of s ps fs)))
      at true h = h
      at false h = h
  same_fates (came ∷ fs) last last' [] m e = same_fates fs last last' [] m e
  same_fates (came ∷ fs) last last' (p ∷ ps) m e =
      at (eqb p.stream s) refl (λ l k. same_fates fs (replaced last p.stream (some p)) l ps (put-stream last p m) k)
    where
      rest : List Arrival
      rest = arrivals_from (replaced last p.stream (some p)) ps fs

      at : (b : Bool) → eqb p.stream s ≡ b
          → ((l : ℕ → Option Polled) → replaced last p.stream (some p) s ≡ l s
          → own_of s rest ≡ own_of s (arrivals_from l (polled_of s ps) (fates_of s ps fs)))
          → cond b (p ∷ own_of s rest) (own_of s rest)
          ≡ own_of s (arrivals_from last' (cond b (p ∷ polled_of s ps) (polled_of s ps)) (cond b (came ∷ fates_of s ps fs) (fates_of s ps fs)))
      at true t ih = rw t (ap (λ l. p ∷ l) (ih (replaced last' p.stream (some p)) (rw t)))
      at false t ih = ih last' (rw t e)
  same_fates (again t ∷ fs) last last' ps m e = at (eqb t s) refl (same_fates fs last last' ps m e)
    where
      at : (b : Bool) → eqb t s ≡ b → own_of s (arrivals_from last ps fs) ≡ own_of s (arrivals_from last' (polled_of s ps) (fates_of s ps fs))
          → own_of s (repeats (last t) (arrivals_from last ps fs))
          ≡ own_of s (arrivals_from last' (polled_of s ps) (cond b (again t ∷ fates_of s ps fs) (fates_of s ps fs)))
      at true k h =
          let same : last t ≡ last' t = ap last (eqb-true t s k) ∙ e ∙ ap last' (sym (eqb-true t s k)) in
          ap (λ o. own_of s (repeats o (arrivals_from last ps fs))) same ∙ repeats-same (last' t) _ _ h
      at false k h = repeats_other t (last t) (arrivals_from last ps fs) (m t) k ∙ h
  same_fates (noise f ∷ fs) last last' ps m e = same_fates fs last last' ps m e
