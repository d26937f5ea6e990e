-- Of one stream, the reader hands out exactly the packets all of whose pieces arrived; and what becomes of the others does not count.
-- Assumes nothing.
use mathlib.Core.Path.{◌≡◌, refl, sym, ap, ap₂, ◌∙◌, subst}
use mathlib.Core.Logic.{inl, inr}
use mathlib.Core.Bool.{Bool, true, false, cond, false≢true}
use mathlib.Core.Option.{none}
use mathlib.Core.List.{List, [], ◌∷◌, ◌++◌, map, append_assoc}
use Prim.Native.Nat.{ℕ, zero, suc, ◌+◌, ◌*◌, ◌<◌}
use native.Mathlib.Nat.{mul-le-mul_right}
use native.Mathlib.Omega.{arith}
use native.Mathlib.Decide.{dec_le}
use lib.Dec.{eqb}
use lib.ListN.{length, get_or, take, drop, length-append, length-map, take-append-drop}
use lib.Seq.{get_or-append_seam, append_snoc}
use borrow.Author.Tests.{eqb-true, ltb-true}
use Rattle.paper.specs.Streams.{pieces, listed, carried}
use Rattle.paper.specs.Packets.{joined, cut}
use Rattle.paper.specs.Queue.{replaced}
use Rattle.paper.specs.Controller.{start}
use Rattle.paper.specs.Reader.{fresh, reader_start, sound}
use Rattle.paper.specs.Runs.{Call}
use Rattle.paper.specs.History.{sent_by}
use Rattle.polls.specs.Polls.{Polled, polled, pieces_queued, polled_of}
use Rattle.delivery.specs.Chosen.{Arrival, own_of, arrived, NoOthers, Gaps, Comes}
use Rattle.delivery.specs.HandedOut.{Given, of, hands_out, all_among, complete}
use Rattle.delivery.specs.Fates.{Fate, arrivals_from, arrivals, Quiet, fates_of}
use Rattle.delivery.specs.Demands.{Delivered, ByArrivals, ByFates, Independent}
use Rattle.paper.proofs.History.{length_cut}
use Rattle.polls.proofs.Whole.{Whole, whole-sound, whole_back}
use Rattle.polls.proofs.Arrivals.{run, piece, bodies, packet, In, Finishes, reads}
use Rattle.delivery.proofs.Reading.{trimmed, reads_one}
use Rattle.polls.proofs.Sending.{Wholes, sent-whole}
use Rattle.polls.proofs.Polled.{polled_fine}
use Rattle.delivery.proofs.Way.{prefix, chosen-front, arrivals-chosen, Told, told, told-arrives, told_in, fates_others, others_front, found, given-found, given_roomy, told-pieces, same_fates}
use Rattle.delivery.proofs.QueueOrder.{own-append, arrived-append}
use Rattle.delivery.proofs.Selected.{complete_of, selected}

-- ---- packet q of a stream is the q-th that was queued

abbrev flat : {A : Type 0} → List (List A) → List A
flat [] = []
flat (xs ∷ xss) = xs ++ flat xss

-- each has k pieces
abbrev Each : {A : Type 0} → ℕ → List (List A) → Type 0
Each k [] = Unit {0}
Each k (xs ∷ xss) = (length xs ≡ k) × Each k xss

index_lt : (n q k : ℕ) → q * k + 0 < n * k → q < n
index_lt n q k h = elim (dec_le n q) [ yes l ↦ absurd (omega (arith, mul-le-mul_right k l)) | no l ↦ omega arith ]

module _ {A : Type 0} (d : A) where
  bodies_list : (xs pre ys L : List A) (n : ℕ) → L ≡ pre ++ (xs ++ ys) → n ≡ length pre → bodies (λ i. get_or L i d) n (length xs) ≡ xs
  unfolding bodies
  bodies_list [] pre ys L n e h = refl
  bodies_list (x ∷ xs) pre ys L n e h =
      ap₂ ◌∷◌ (rw (e, h) (get_or-append_seam pre x (xs ++ ys) d))
      (bodies_list xs (pre ++ (x ∷ [])) ys L (suc n) (e ∙ sym (append_snoc pre x (xs ++ ys))) (omega (arith, length-append pre (x ∷ []))))

  chunk : (k : ℕ) (xss : List (List A)) (pre L : List A) (n q : ℕ) → Each k xss → L ≡ pre ++ flat xss → n ≡ length pre
      → q < length xss → bodies (λ i. get_or L i d) (n + q * k) k ≡ get_or xss q []
  chunk k [] pre L n q c e h l = absurd (omega arith)
  chunk k (xs ∷ xss) pre L n zero c e h l =
      rw (← c.0)
      (ap (λ (m : ℕ). bodies (λ i. get_or L i d) m (length xs)) (let r : n + 0 * length xs ≡ n = omega arith in r)
      ∙ bodies_list xs pre (flat xss) L n e h)
  chunk k (xs ∷ xss) pre L n (suc q) c e h l =
      ap (λ (m : ℕ). bodies (λ i. get_or L i d) m k) (let r : n + suc q * k ≡ n + k + q * k = omega arith in r)
      ∙ chunk k xss (pre ++ xs) L (n + k) q c.1 (e ∙ sym (append_assoc pre xs (flat xss)))
      (omega (arith, length-append pre xs, c.0)) (omega arith)

  length_flat : (k : ℕ) (xss : List (List A)) → Each k xss → length (flat xss) ≡ length xss * k
  length_flat k [] c = omega arith
  length_flat k (xs ∷ xss) c = omega (arith, length-append xs (flat xss), c.0, length_flat k xss c.1)

  packet_is : (k : ℕ) (xss : List (List A)) (q : ℕ) → Each k xss → q < length xss
      → packet k (λ n. get_or (flat xss) n d) q ≡ get_or xss q []
  packet_is k xss q c h =
      ap (λ (m : ℕ). bodies (λ n. get_or (flat xss) n d) m k) (let r : q * k ≡ 0 + q * k = omega arith in r)
      ∙ chunk k xss [] (flat xss) 0 q c refl refl h

-- ---- a stream's packets and its pieces

pub bodies_flat : (s : ℕ) (ps : List (ℕ × List ℕ)) → pieces_queued s ps ≡ flat (map (cut (pieces s)) (of s ps))
unfolding pieces_queued of
bodies_flat s [] = refl
bodies_flat s (p ∷ ps) = at (eqb p.0 s) (bodies_flat s ps)
  where
    at : (b : Bool) → pieces_queued s ps ≡ flat (map (cut (pieces s)) (of s ps))
        → cond b (cut (pieces s) p.1 ++ pieces_queued s ps) (pieces_queued s ps)
        ≡ flat (map (cut (pieces s)) (cond b (p.1 ∷ of s ps) (of s ps)))
    at true h = ap (λ l. cut (pieces s) p.1 ++ l) h
    at false h = h

each-cut : (k : ℕ) (xs : List (List ℕ)) → Each k (map (cut k) xs)
each-cut k [] = tt
each-cut k (x ∷ xs) = (length_cut k x, each-cut k xs)

-- of stream s each is whole
abbrev WholeOf : ℕ → List (List ℕ) → Type 0
WholeOf s [] = Unit {0}
WholeOf s (x ∷ xs) = Whole s x × WholeOf s xs

whole_of : (s : ℕ) (ps : List (ℕ × List ℕ)) → Wholes ps → WholeOf s (of s ps)
unfolding of
whole_of s [] h = tt
whole_of s (p ∷ ps) h = at (eqb p.0 s) refl (whole_of s ps h.1)
  where
    at : (b : Bool) → eqb p.0 s ≡ b → WholeOf s (of s ps) → WholeOf s (cond b (p.1 ∷ of s ps) (of s ps))
    at true e r = (subst (λ (t : ℕ). Whole t p.1) (eqb-true p.0 s e) h.0, r)
    at false e r = r

whole-at : (s : ℕ) (xs : List (List ℕ)) → WholeOf s xs → (q : ℕ) → q < length xs → Whole s (get_or xs q [])
whole-at s [] w q h = absurd (omega arith)
whole-at s (x ∷ xs) w zero h = w.0
whole-at s (x ∷ xs) w (suc q) h = whole-at s xs w.1 q (omega arith)

get_or-map : {X Y : Type 0} (f : X → Y) (xs : List X) (q : ℕ) (d : X) (e : Y) → q < length xs → get_or (map f xs) q e ≡ f (get_or xs q d)
get_or-map f [] q d e h = absurd (omega arith)
get_or-map f (x ∷ xs) zero d e h = refl
get_or-map f (x ∷ xs) (suc q) d e h = get_or-map f xs q d e (omega arith)

-- finished packets that are those at places qs come out as they were queued
trimmed_all : (s : ℕ) (f : ℕ → List (List ℕ)) (g : ℕ → List ℕ) (qs : List ℕ)
    → ((q : ℕ) → In q qs → (sound s (joined (f q)) ≡ true) × (take (listed s) (joined (f q)) ≡ g q))
    → trimmed s (map f qs) ≡ map g qs
unfolding trimmed
trimmed_all s f g [] h = refl
trimmed_all s f g (q ∷ qs) h =
    let here = h q (inl refl) in rw here.0 (ap₂ ◌∷◌ here.1 (trimmed_all s f g qs (λ p i. h p (inr i))))

-- ---- one stream

module _ (s : ℕ) (ps : List (ℕ × List ℕ)) (w : Wholes ps) where
  -- a stream that is carried
  carries : 0 < pieces s → (ys : List Arrival) → Told s (pieces_queued s ps) 0 (own_of s ys) → NoOthers s ys
      → Gaps 0 (arrived s ys) → (given : List Call) → Given ys given
      → of s (hands_out given) ≡ complete_of (pieces s) 0 (arrived s ys) (of s ps)
  unfolding reader_start
  carries kp ys t a gaps given g =
      reads_one s given (given_roomy ys given g) reader_start
      ∙ ap (λ l. trimmed s (run (pieces s) (fresh (pieces s)) l)) (given-found s ys given g a ∙ told-pieces s (pieces_queued s ps) (own_of s ys) 0 t)
      ∙ ap (trimmed s) r.3
      ∙ trimmed_all s (packet (pieces s) b) (λ q. get_or (of s ps) q []) r.0 whole
      ∙ selected (pieces s) (arrived s ys) (of s ps) r.0 r.1 r.2 lt
    where
      b : ℕ → List ℕ
      b n = get_or (pieces_queued s ps) n []

      r : Finishes (pieces s) b (arrived s ys) (run (pieces s) (fresh (pieces s)) (map (piece b) (arrived s ys)))
      r = reads (pieces s) kp b (arrived s ys) (told-arrives s (pieces_queued s ps) (own_of s ys) 0 t gaps)

      cuts : List (List (List ℕ))
      cuts = map (cut (pieces s)) (of s ps)

      long : length (pieces_queued s ps) ≡ length (of s ps) * pieces s
      long =
          ap length (bodies_flat s ps) ∙ length_flat [] (pieces s) cuts (each-cut (pieces s) (of s ps))
          ∙ ap (λ (n : ℕ). n * pieces s) (length-map (of s ps) (cut (pieces s)))

      lt : (q : ℕ) → In q r.0 → q < length (of s ps)
      lt q i =
          index_lt (length (of s ps)) q (pieces s)
          (subst (λ (n : ℕ). q * pieces s + 0 < n) long (told_in s (pieces_queued s ps) (own_of s ys) 0 _ t ((r.2 q).0 i 0 kp)))

      is : (q : ℕ) → In q r.0 → packet (pieces s) b q ≡ cut (pieces s) (get_or (of s ps) q [])
      is q i =
          ap (λ (l : List (List ℕ)). packet (pieces s) (λ n. get_or l n []) q) (bodies_flat s ps)
          ∙ packet_is [] (pieces s) cuts q (each-cut (pieces s) (of s ps)) (omega (arith, lt q i, length-map (of s ps) (cut (pieces s))))
          ∙ get_or-map (cut (pieces s)) (of s ps) q [] [] (lt q i)

      whole : (q : ℕ) → In q r.0
          → (sound s (joined (packet (pieces s) b q)) ≡ true) × (take (listed s) (joined (packet (pieces s) b q)) ≡ get_or (of s ps) q [])
      whole q i =
          let z : Whole s (get_or (of s ps) q []) = whole-at s (of s ps) (whole_of s ps w) q (lt q i) in (
            ap (λ l. sound s (joined l)) (is q i) ∙ whole-sound s (get_or (of s ps) q []) z,
            ap (λ l. take (listed s) (joined l)) (is q i) ∙ whole_back s (get_or (of s ps) q []) z,
          )

  -- a stream that is not carried: nothing is queued, nothing arrives
  no_packets : carried s ≡ false → (xs : List (List ℕ)) → WholeOf s xs → xs ≡ []
  no_packets f [] h = refl
  no_packets f (x ∷ xs) h = absurd (false≢true (sym f ∙ h.0.0))

  no_arrivals : (qs : List Polled) → length (pieces_queued s ps) ≡ 0 → Told s (pieces_queued s ps) 0 qs → qs ≡ []
  no_arrivals [] e t = refl
  no_arrivals (q ∷ qs) e t = absurd (omega (arith, t.1))

  not_carried_lem : carried s ≡ false → (ys : List Arrival) → Told s (pieces_queued s ps) 0 (own_of s ys) → NoOthers s ys
      → (given : List Call) → Given ys given → of s (hands_out given) ≡ complete_of (pieces s) 0 (arrived s ys) (of s ps)
  unfolding complete_of found run trimmed
  not_carried_lem f ys t a given g =
      let none : of s ps ≡ [] = no_packets f (of s ps) (whole_of s ps w) in
      let nil : pieces_queued s ps ≡ [] = bodies_flat s ps ∙ ap (λ l. flat (map (cut (pieces s)) l)) none in
      reads_one s given (given_roomy ys given g) reader_start
      ∙ ap (λ l. trimmed s (run (pieces s) (reader_start s) l))
      (given-found s ys given g a ∙ ap (found s) (no_arrivals (own_of s ys) (ap length nil) t))
      ∙ sym (ap (complete_of (pieces s) 0 (arrived s ys)) none)

  delivered : (ys : List Arrival) → Told s (pieces_queued s ps) 0 (own_of s ys) → NoOthers s ys → Gaps 0 (arrived s ys)
      → (given : List Call) → Given ys given → of s (hands_out given) ≡ complete_of (pieces s) 0 (arrived s ys) (of s ps)
  delivered ys t a gaps given g = by (carried s) refl
    where
      by : (b : Bool) → carried s ≡ b → of s (hands_out given) ≡ complete_of (pieces s) 0 (arrived s ys) (of s ps)
      by true e = carries (ltb-true 0 (pieces s) e) ys t a gaps given g
      by false e = not_carried_lem e ys t a given g

-- ---- of one stream, those of all that arrived whole

of-complete : (s : ℕ) (ys : List Arrival) (ps : List (ℕ × List ℕ)) (before : ℕ → ℕ)
    → of s (complete before ys ps) ≡ complete_of (pieces s) (before s) (arrived s ys) (of s ps)
unfolding complete complete_of of replaced
of-complete s ys [] before = refl
of-complete s ys (p ∷ ps) before = by (eqb p.0 s) refl (of-complete s ys ps _)
  where
    t : ℕ
    t = p.0

    rest : List (ℕ × List ℕ)
    rest = complete (replaced before p.0 (before p.0 + pieces p.0)) ys ps

    whole : Bool
    whole = all_among (pieces p.0) (before p.0) (arrived p.0 ys)

    own : (a : Bool) (n : ℕ) → eqb p.0 s ≡ true → of s rest ≡ complete_of (pieces s) n (arrived s ys) (of s ps)
        → of s (cond a (p ∷ rest) rest)
        ≡ cond a (p.1 ∷ complete_of (pieces s) n (arrived s ys) (of s ps)) (complete_of (pieces s) n (arrived s ys) (of s ps))
    own true n e h = rw e (ap (λ l. p.1 ∷ l) h)
    own false n e h = h

    other : (a : Bool) (n : ℕ) → eqb p.0 s ≡ false → of s rest ≡ complete_of (pieces s) n (arrived s ys) (of s ps)
        → of s (cond a (p ∷ rest) rest) ≡ complete_of (pieces s) n (arrived s ys) (of s ps)
    other true n e h = rw e h
    other false n e h = h

    by : (b : Bool) → eqb p.0 s ≡ b
        → of s rest ≡ complete_of (pieces s) (cond b (before p.0 + pieces p.0) (before s)) (arrived s ys) (of s ps)
        → of s (cond whole (p ∷ rest) rest) ≡ complete_of (pieces s) (before s) (arrived s ys) (cond b (p.1 ∷ of s ps) (of s ps))
    by true e h =
        let same : p.0 ≡ s = eqb-true p.0 s e in
        own whole (before p.0 + pieces p.0) e h
        ∙ ap
        (λ (u : ℕ).
        cond (all_among (pieces u) (before u) (arrived u ys))
        (p.1 ∷ complete_of (pieces s) (before u + pieces u) (arrived s ys) (of s ps))
        (complete_of (pieces s) (before u + pieces u) (arrived s ys) (of s ps))) same
    by false e h = other whole (before s) e h

-- ---- a stream of a run

pub delivers : (calls : List Call) (ys : List Arrival) (s : ℕ) → Delivered calls ys s
delivers calls ys s c given g =
    delivered s (sent_by start calls) (sent-whole calls) ys
    (told s (pieces_queued s (sent_by start calls)) (polled_of s (polled calls)) (own_of s ys) (polled_fine calls s).0 c.chosen)
    c.no_others c.gaps given g
    ∙ sym (of-complete s ys (sent_by start calls) (λ t. 0))

-- a beginning of such arrivals is such arrivals
gaps-front : (e : ℕ) (ms ks : List ℕ) → Gaps e (ms ++ ks) → Gaps e ms
gaps-front e [] ks g = tt
gaps-front e (m ∷ ms) ks g = (g.0, gaps-front (suc m) ms ks g.1)

pub comes-front : (calls : List Call) (ys zs : List Arrival) (s : ℕ) → Comes calls (ys ++ zs) s → Comes calls ys s
comes-front calls ys zs s c =
    record {
      chosen = chosen-front (polled_of s (polled calls)) (own_of s ys) (own_of s zs) (rw (own-append s ys zs) at c.chosen);
      no_others = others_front s ys zs c.no_others;
      gaps = gaps-front 0 (arrived s ys) (arrived s zs) (rw (arrived-append s ys zs) at c.gaps);
    }

pub begins : (calls : List Call) (ys : List Arrival) (s n : ℕ) → Comes calls ys s → Comes calls (take n ys) s
begins calls ys s n c =
    comes-front calls (take n ys) (drop n ys) s (subst (λ (l : List Arrival). Comes calls l s) (sym (take-append-drop n ys)) c)

-- ---- the other streams do not count

pub by_arrivals : (ys zs : List Arrival) (s : ℕ) → ByArrivals ys zs s
by_arrivals ys zs s e n n' given given' g g' =
    out ys given g n ∙ ap (λ l. trimmed s (run (pieces s) (reader_start s) (found s l))) e ∙ sym (out zs given' g' n')
  where
    out : (ys : List Arrival) (xs : List Call) → Given ys xs → NoOthers s ys
        → of s (hands_out xs) ≡ trimmed s (run (pieces s) (reader_start s) (found s (own_of s ys)))
    out ys xs h k =
        reads_one s xs (given_roomy ys xs h) reader_start
        ∙ ap (λ l. trimmed s (run (pieces s) (reader_start s) l)) (given-found s ys xs h k)

-- ---- by fates

others : (calls : List Call) (fates : List Fate) (s : ℕ) → Quiet (arrivals calls fates) → NoOthers s (arrivals calls fates)
unfolding arrivals
others calls fates s q =
    fates_others s (arrivals calls fates) (arrivals-chosen s fates (polled calls) (polled_fine calls s).1).1 q

pub fates_come : (calls : List Call) (fates : List Fate) (s : ℕ) → Quiet (arrivals calls fates)
    → Gaps 0 (arrived s (arrivals calls fates)) → Comes calls (arrivals calls fates) s
unfolding arrivals
fates_come calls fates s q g =
    record {
      chosen = (arrivals-chosen s fates (polled calls) (polled_fine calls s).1).0;
      no_others = others calls fates s q;
      gaps = g;
    }

pub by_fates : (calls : List Call) (fates : List Fate) (s : ℕ) → ByFates calls (arrivals calls fates) s
by_fates calls fates s quiet gaps = delivers calls (arrivals calls fates) s (fates_come calls fates s quiet gaps)

-- at every moment on the way
pub always : (calls : List Call) (fates : List Fate) (s n : ℕ) → ByFates calls (take n (arrivals calls fates)) s
unfolding arrivals
always calls fates s n =
    let r = prefix fates n (λ t. none) (polled calls) in
    subst (λ (l : List Arrival). ByFates calls l s) (sym r.1) (by_fates calls r.0 s)

pub independent : (calls : List Call) (fates fates' : List Fate) (s : ℕ) → Independent calls fates fates' s
unfolding arrivals
independent calls fates fates' s e q q' =
    by_arrivals (arrivals calls fates) (arrivals calls fates') s (same fates ∙ ap arrive e ∙ sym (same fates'))
    (others calls fates s q) (others calls fates' s q')
  where
    -- by the fates of stream s alone
    arrive : List Fate → List Polled
    arrive fs = own_of s (arrivals_from (λ t. none) (polled_of s (polled calls)) fs)

    same : (fs : List Fate) → own_of s (arrivals calls fs) ≡ arrive (fates_of s (polled calls) fs)
    same fs = same_fates s fs (λ t. none) (λ t. none) (polled calls) (λ t. tt) refl
