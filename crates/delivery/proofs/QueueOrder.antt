-- All streams together: a packet that an arrival completes was queued behind every packet that arrived whole before it, so the
-- packets that arrived whole only ever grow at the end. The queue is first in first out, and each arrival that is no repeat was
-- queued behind all earlier ones.
-- Assumes nothing.
use mathlib.Core.Path.{◌≡◌, refl, sym, ap, ap₂, ◌∙◌, subst}
use mathlib.Core.Logic.{◌⊎◌, inl, inr}
use mathlib.Core.Bool.{Bool, true, false, cond, false≢true}
use mathlib.Core.Option.{Option, none, some}
use mathlib.Core.List.{List, [], ◌∷◌, ◌++◌, map, append_assoc, append-nil}
use Prim.Native.Nat.{ℕ, suc, ◌+◌, ◌-◌, ◌≤◌, ◌<◌}
use native.Mathlib.Omega.{arith}
use lib.Dec.{eqb}
use lib.ListN.{length, length-append, get_or, drop}
use borrow.Author.Tests.{eqb-true, eqb-false, eq-eqb, ltb-true}
use Rattle.paper.specs.Streams.{pieces}
use Rattle.paper.specs.Packets.{cut}
use Rattle.paper.specs.Queue.{Piece, piece, numbered, after, replaced}
use Rattle.paper.specs.History.{numbered_all}
use Rattle.polls.specs.Polls.{Polled}
use Rattle.delivery.specs.Chosen.{Arrival, own, strange, own_of, arrived}
use Rattle.delivery.specs.HandedOut.{all_among, complete}
use Rattle.delivery.specs.Fates.{Fate, lost, came, again, noise, repeats, arrivals_from}
use Rattle.paper.proofs.History.{length_cut}
use Rattle.polls.proofs.Sending.{Wholes}
use Rattle.polls.proofs.Arrivals.{In}
use Rattle.polls.proofs.Polled.{map-append, Sub, sub_skip, after-suc}
use Rattle.delivery.proofs.Selected.{all_in, in_all}

-- ---- the numbers that arrived, with one arrival more

pub own-append : (s : ℕ) (ys zs : List Arrival) → own_of s (ys ++ zs) ≡ own_of s ys ++ own_of s zs
unfolding own_of
own-append s [] zs = refl
own-append s (own p ∷ ys) zs = at (eqb p.stream s) (own-append s ys zs)
  where
    at : (b : Bool) → own_of s (ys ++ zs) ≡ own_of s ys ++ own_of s zs
        → cond b (p ∷ own_of s (ys ++ zs)) (own_of s (ys ++ zs)) ≡ cond b (p ∷ own_of s ys) (own_of s ys) ++ own_of s zs
    at true h = ap (λ l. p ∷ l) h
    at false h = h
own-append s (strange f ∷ ys) zs = own-append s ys zs

pub arrived-append : (s : ℕ) (ys zs : List Arrival) → arrived s (ys ++ zs) ≡ arrived s ys ++ arrived s zs
arrived-append s ys zs = ap (map (λ p. p.number)) (own-append s ys zs) ∙ map-append (λ (p : Polled). p.number) (own_of s ys) (own_of s zs)

in_left : (n : ℕ) (ms ks : List ℕ) → In n ms → In n (ms ++ ks)
in_left n [] ks h = absurd h
in_left n (m ∷ ms) ks (inl h) = inl h
in_left n (m ∷ ms) ks (inr h) = inr (in_left n ms ks h)

in_right : (n : ℕ) (ms ks : List ℕ) → In n ks → In n (ms ++ ks)
in_right n [] ks h = h
in_right n (m ∷ ms) ks h = inr (in_right n ms ks h)

in_either : (n : ℕ) (ms ks : List ℕ) → In n (ms ++ ks) → In n ms ⊎ In n ks
in_either n [] ks h = inr h
in_either n (m ∷ ms) ks (inl h) = inl (inl h)
in_either n (m ∷ ms) ks (inr h) = at (in_either n ms ks h)
  where
    at : In n ms ⊎ In n ks → In n (m ∷ ms) ⊎ In n ks
    at (inl k) = inl (inr k)
    at (inr k) = inr k

in_more : (t n : ℕ) (pre ys : List Arrival) → In n (arrived t pre) → In n (arrived t (pre ++ ys))
in_more t n pre ys h = rw (arrived-append t pre ys) (in_left n (arrived t pre) (arrived t ys) h)

in_new : (pre : List Arrival) (p : Polled) → In p.number (arrived p.stream (pre ++ (own p ∷ [])))
unfolding own_of
in_new pre p =
    rw (arrived-append p.stream pre (own p ∷ []))
    (in_right p.number (arrived p.stream pre) _ (rw (eq-eqb p.stream p.stream refl) (inl refl)))

in_less : (t n : ℕ) (pre : List Arrival) (p : Polled) → In n (arrived t (pre ++ (own p ∷ [])))
    → In n (arrived t pre) ⊎ ((p.stream ≡ t) × (n ≡ p.number))
unfolding own_of
in_less t n pre p h = at (in_either n (arrived t pre) _ (rw (arrived-append t pre (own p ∷ [])) at h))
  where
    new : (b : Bool) → eqb p.stream t ≡ b → In n (map (λ q. q.number) (cond b (p ∷ []) [])) → (p.stream ≡ t) × (n ≡ p.number)
    new true e (inl k) = (eqb-true p.stream t e, k)
    new true e (inr k) = absurd k
    new false e k = absurd k

    at : In n (arrived t pre) ⊎ In n (map (λ q. q.number) (cond (eqb p.stream t) (p ∷ []) []))
        → In n (arrived t pre) ⊎ ((p.stream ≡ t) × (n ≡ p.number))
    at (inl k) = inl k
    at (inr k) = inr (new (eqb p.stream t) refl k)

in_noise : (t n : ℕ) (pre : List Arrival) (f : List ℕ) → In n (arrived t (pre ++ (strange f ∷ []))) → In n (arrived t pre)
unfolding own_of
in_noise t n pre f h = rw (arrived-append t pre (strange f ∷ []), append-nil (arrived t pre)) at h

-- ---- arrivals, where pieces q are still to come: a repeat, or the next of q that is not missing

abbrev Next : Polled → List (Piece (List ℕ)) → List (Piece (List ℕ)) → Piece (List ℕ) → List (Piece (List ℕ)) → Type 0
Next p q X z Y = (q ≡ X ++ (z ∷ Y)) × (z.stream ≡ p.stream) × (z.count ≡ p.number)

abbrev Orderly : List Arrival → List (Piece (List ℕ)) → List Arrival → Type 0
Orderly pre q [] = Unit {0}
Orderly pre q (strange f ∷ ys) = Orderly (pre ++ (strange f ∷ [])) q ys
Orderly pre q (own p ∷ ys) =
    (In p.number (arrived p.stream pre) × Orderly (pre ++ (own p ∷ [])) q ys)
    ⊎ ((X : List (Piece (List ℕ))) × (z : Piece (List ℕ)) × (Y : List (Piece (List ℕ))) × Next p q X z Y
    × Orderly (pre ++ (own p ∷ [])) Y ys)

sub_split : (p : Polled) (ps : List Polled) (q : List (Piece (List ℕ))) → Sub (p ∷ ps) q
    → (X : List (Piece (List ℕ))) × (z : Piece (List ℕ)) × (Y : List (Piece (List ℕ))) × Next p q X z Y × Sub ps (z ∷ Y)
sub_split p ps [] h = absurd h
sub_split p ps (z ∷ q) (inl h) = ([], z, q, (refl, h.0, h.1), h.2)
sub_split p ps (z ∷ q) (inr h) =
    let r = sub_split p ps q h in (z ∷ r.0, r.1, r.2, (ap (λ l. z ∷ l) r.3.0, r.3.1, r.3.2), r.4)

sub_tail : (p : Polled) (ps : List Polled) (q : List (Piece (List ℕ))) → Sub (p ∷ ps) q → Sub ps q
sub_tail p ps [] h = absurd h
sub_tail p ps (z ∷ q) (inl h) = h.2
sub_tail p ps (z ∷ q) (inr h) = sub_skip z ps q (sub_tail p ps q h)

-- Packets still to come of pieces q, and before them perhaps some of pieces that arrived.
abbrev Later : List Arrival → List Polled → List (Piece (List ℕ)) → Type 0
Later pre [] q = Unit {0}
Later pre (p ∷ ps) q = (In p.number (arrived p.stream pre) × Later pre ps q) ⊎ Sub (p ∷ ps) q

later_sub : (pre : List Arrival) (ps : List Polled) (q : List (Piece (List ℕ))) → Sub ps q → Later pre ps q
later_sub pre [] q h = tt
later_sub pre (p ∷ ps) q h = inr h

later_tail : (pre : List Arrival) (p : Polled) (ps : List Polled) (q : List (Piece (List ℕ))) → Later pre (p ∷ ps) q → Later pre ps q
later_tail pre p ps q (inl h) = h.1
later_tail pre p ps q (inr h) = later_sub pre ps q (sub_tail p ps q h)

later_more : (pre ys : List Arrival) (ps : List Polled) (q : List (Piece (List ℕ))) → Later pre ps q → Later (pre ++ ys) ps q
later_more pre ys [] q h = tt
later_more pre ys (p ∷ ps) q (inl h) = inl (in_more p.stream p.number pre ys h.0, later_more pre ys ps q h.1)
later_more pre ys (p ∷ ps) q (inr h) = inr h

-- of a piece that arrived, and those behind it
later_arrived : (pre : List Arrival) (z : Piece (List ℕ)) (ps : List Polled) (q : List (Piece (List ℕ)))
    → In z.count (arrived z.stream pre) → Sub ps (z ∷ q) → Later pre ps q
later_arrived pre z [] q i h = tt
later_arrived pre z (p ∷ ps) q i (inl h) = inl (rw (h.0, h.1) at i, later_arrived pre z ps q i h.2)
later_arrived pre z (p ∷ ps) q i (inr h) = inr h

-- the last arrival of a stream has arrived
abbrev SeenAt : List Arrival → Option Polled → Type 0
SeenAt pre none = Unit {0}
SeenAt pre (some p) = In p.number (arrived p.stream pre)

seen_more : (pre ys : List Arrival) (o : Option Polled) → SeenAt pre o → SeenAt (pre ++ ys) o
seen_more pre ys none h = tt
seen_more pre ys (some p) h = in_more p.stream p.number pre ys h

orderly_repeats : (pre : List Arrival) (q : List (Piece (List ℕ))) (o : Option Polled) (ys : List Arrival) → SeenAt pre o
    → Orderly pre q ys → ((p : Polled) → Orderly (pre ++ (own p ∷ [])) q ys) → Orderly pre q (repeats o ys)
orderly_repeats pre q none ys h f g = f
orderly_repeats pre q (some p) ys h f g = inl (h, g p)

orderly : (fates : List Fate) (last : ℕ → Option Polled) (ps : List Polled) (q : List (Piece (List ℕ))) (pre : List Arrival) → Later pre ps q
    → ((t : ℕ) → SeenAt pre (last t)) → Orderly pre q (arrivals_from last ps fates)
unfolding arrivals_from replaced
orderly [] last ps q pre h m = tt
orderly (lost ∷ fs) last [] q pre h m = orderly fs last [] q pre h m
orderly (lost ∷ fs) last (p ∷ ps) q pre h m = orderly fs last ps q pre (later_tail pre p ps q h) m
orderly (came ∷ fs) last [] q pre h m = orderly fs last [] q pre h m
orderly (came ∷ fs) last (p ∷ ps) q pre h m = by h (λ r k. orderly fs (replaced last p.stream (some p)) ps r next k (λ t. at t (eqb p.stream t)))
  where
    next : List Arrival
    next = pre ++ (own p ∷ [])

    at : (t : ℕ) (b : Bool) → SeenAt next (cond b (some p) (last t))
    at t true = in_new pre p
    at t false = seen_more pre (own p ∷ []) (last t) (m t)

    arrivals : List Arrival
    arrivals = arrivals_from (replaced last p.stream (some p)) ps fs

    by : Later pre (p ∷ ps) q → ((r : List (Piece (List ℕ))) → Later next ps r → Orderly next r arrivals)
        → (In p.number (arrived p.stream pre) × Orderly next q arrivals)
        ⊎ ((X : List (Piece (List ℕ))) × (z : Piece (List ℕ)) × (Y : List (Piece (List ℕ))) × Next p q X z Y × Orderly next Y arrivals)
    by (inl h) go = inl (h.0, go q (later_more pre (own p ∷ []) ps q h.1))
    by (inr h) go =
        let r = sub_split p ps q h in
        let z : Piece (List ℕ) = r.1 in
        let came-now : In z.count (arrived z.stream next) = rw (r.3.1, r.3.2) (in_new pre p) in
        inr (r.0, z, r.2, r.3, go r.2 (later_arrived next z ps r.2 came-now r.4))
orderly (again t ∷ fs) last ps q pre h m =
    orderly_repeats pre q (last t) (arrivals_from last ps fs) (m t) (orderly fs last ps q pre h m)
    (λ p. orderly fs last ps q (pre ++ (own p ∷ [])) (later_more pre (own p ∷ []) ps q h) (λ u. seen_more pre (own p ∷ []) (last u) (m u)))
orderly (noise f ∷ fs) last ps q pre h m =
    orderly fs last ps q (pre ++ (strange f ∷ [])) (later_more pre (strange f ∷ []) ps q h)
    (λ u. seen_more pre (strange f ∷ []) (last u) (m u))

-- ---- numbers rise in each stream

-- of each stream t, numbers from F t on, rising
abbrev Above : (ℕ → ℕ) → List (Piece (List ℕ)) → Type 0
Above F [] = Unit {0}
Above F (z ∷ q) = (F z.stream ≤ z.count) × Above (replaced F z.stream (suc z.count)) q

abbrev bound : (ℕ → ℕ) → List (Piece (List ℕ)) → ℕ → ℕ
bound F [] = F
bound F (z ∷ q) = bound (replaced F z.stream (suc z.count)) q

above_back : (X : List (Piece (List ℕ))) (F : ℕ → ℕ) (Y : List (Piece (List ℕ))) → Above F (X ++ Y) → Above (bound F X) Y
above_back [] F Y h = h
above_back (z ∷ X) F Y h = above_back X (replaced F z.stream (suc z.count)) Y h.1

put-above : (F : ℕ → ℕ) (s n t : ℕ) → F s ≤ n → F t ≤ replaced F s (suc n) t
unfolding replaced
put-above F s n t h = at (eqb s t) refl
  where
    at : (b : Bool) → eqb s t ≡ b → F t ≤ cond b (suc n) (F t)
    at true e = omega (arith, ap F (eqb-true s t e))
    at false e = omega arith

-- a piece behind others is above the bound before them
above_ge : (X : List (Piece (List ℕ))) (F : ℕ → ℕ) (z : Piece (List ℕ)) (Y : List (Piece (List ℕ))) → Above F (X ++ (z ∷ Y))
    → F z.stream ≤ z.count
above_ge [] F z Y h = h.0
above_ge (v ∷ X) F z Y h =
    omega (arith, put-above F v.stream v.count z.stream h.0, above_ge X (replaced F v.stream (suc v.count)) z Y h.1)

-- all numbers that arrived are below
abbrev Bounded : (ℕ → ℕ) → List Arrival → Type 0
Bounded F pre = (t n : ℕ) → In n (arrived t pre) → n < F t

bounded_on : (X : List (Piece (List ℕ))) (F : ℕ → ℕ) (Y : List (Piece (List ℕ))) (pre : List Arrival) → Above F (X ++ Y) → Bounded F pre
    → Bounded (bound F X) pre
bounded_on [] F Y pre h b = b
bounded_on (z ∷ X) F Y pre h b =
    bounded_on X (replaced F z.stream (suc z.count)) Y pre h.1
    (λ t n i. omega (arith, b t n i, put-above F z.stream z.count t h.0))

above_block : (s n : ℕ) (xs : List (List ℕ)) (F : ℕ → ℕ) (T : List (Piece (List ℕ))) → F s ≤ n
    → ((G : ℕ → ℕ) → G s ≤ after suc n xs → ((t : ℕ) → eqb s t ≡ false → G t ≤ F t) → Above G T) → Above F (numbered suc s n xs ++ T)
unfolding numbered after replaced
above_block s n [] F T h k = k F h (λ t e. omega arith)
above_block s n (x ∷ xs) F T h k =
    (h, above_block s (suc n) xs (replaced F s (suc n)) T (rw (eq-eqb s s refl) (omega arith)) (λ G a b. k G a (λ t e. rw e at (b t e))))

above-all : (ps : List (ℕ × List ℕ)) (N F : ℕ → ℕ) → ((t : ℕ) → F t ≤ N t) → Above F (numbered_all suc N ps)
unfolding numbered_all replaced
above-all [] N F h = tt
above-all (p ∷ ps) N F h =
    above_block p.0 (N p.0) xs F _ (h p.0) (λ G a b. above-all ps _ G (λ t. at G a b t (eqb p.0 t) refl))
  where
    xs : List (List ℕ)
    xs = cut (pieces p.0) p.1

    at : (G : ℕ → ℕ) → G p.0 ≤ after suc (N p.0) xs → ((t : ℕ) → eqb p.0 t ≡ false → G t ≤ F t) → (t : ℕ) (c : Bool)
        → eqb p.0 t ≡ c → G t ≤ cond c (after suc (N p.0) xs) (N t)
    at G a b t true e = subst (λ (u : ℕ). G u ≤ after suc (N p.0) xs) (eqb-true p.0 t e) a
    at G a b t false e = omega (arith, b t e, h t)

-- ---- what arrived whole, with one arrival more

same_bool_lem : (a b : Bool) → (a ≡ true → b ≡ true) → (b ≡ true → a ≡ true) → a ≡ b
same_bool_lem true b f g = sym (f refl)
same_bool_lem false true f g = g refl
same_bool_lem false false f g = refl

-- k pieces from n on, where what arrived before and after agrees on them
all_same : (k n : ℕ) (ms ks : List ℕ) → ((m : ℕ) → In m ms → In m ks) → ((j : ℕ) → j < k → In (n + j) ks → In (n + j) ms)
    → all_among k n ks ≡ all_among k n ms
all_same k n ms ks f g =
    same_bool_lem (all_among k n ks) (all_among k n ms) (λ e. in_all k n ms (λ j l. g j l (all_in k n ks e j l)))
    (λ e. in_all k n ks (λ j l. f (n + j) (all_in k n ms e j l)))

-- an arrival that adds no number adds no packet
complete-same : (pre post : List Arrival) → ((t n : ℕ) → In n (arrived t pre) → In n (arrived t post))
    → ((t n : ℕ) → In n (arrived t post) → In n (arrived t pre)) → (ps : List (ℕ × List ℕ)) (N : ℕ → ℕ)
    → complete N post ps ≡ complete N pre ps
unfolding complete
complete-same pre post f g [] N = refl
complete-same pre post f g (p ∷ ps) N =
    let rest = complete-same pre post f g ps (replaced N p.0 (N p.0 + pieces p.0)) in
    let same : all_among (pieces p.0) (N p.0) (arrived p.0 post) ≡ all_among (pieces p.0) (N p.0) (arrived p.0 pre) =
    all_same (pieces p.0) (N p.0) (arrived p.0 pre) (arrived p.0 post) (f p.0) (λ j l. g p.0 (N p.0 + j)) in
    rw (same, rest)

-- of two lists joined, where the element z stands
tails : {A : Type 0} (u v : A) (x y : List A) → u ∷ x ≡ v ∷ y → x ≡ y
tails u v x y e = ap (drop 1) e

heads : {A : Type 0} (u v : A) (x y : List A) → u ∷ x ≡ v ∷ y → u ≡ v
heads u v x y e = ap (λ l. get_or l 0 u) e

module _ {A : Type 0} where
  abbrev Here : List A → List A → List A → A → List A → Type 0
  Here a b X z Y = (Y₁ : List A) × (a ≡ X ++ (z ∷ Y₁)) × (Y ≡ Y₁ ++ b)

  abbrev There : List A → List A → List A → A → List A → Type 0
  There a b X z Y = (X' : List A) × (X ≡ a ++ X') × (b ≡ X' ++ (z ∷ Y))

  where_is : (a b X : List A) (z : A) (Y : List A) → a ++ b ≡ X ++ (z ∷ Y) → Here a b X z Y ⊎ There a b X z Y
  where_is [] b X z Y e = inr (X, refl, e)
  where_is (u ∷ a) b [] z Y e = inl (a, ap₂ ◌∷◌ (heads u z (a ++ b) Y e) refl, sym (tails u z (a ++ b) Y e))
  where_is (u ∷ a) b (v ∷ X) z Y e = at (where_is a b X z Y (tails u v (a ++ b) (X ++ (z ∷ Y)) e))
    where
      at : Here a b X z Y ⊎ There a b X z Y → Here (u ∷ a) b (v ∷ X) z Y ⊎ There (u ∷ a) b (v ∷ X) z Y
      at (inl h) = inl (h.0, ap₂ ◌∷◌ (heads u v (a ++ b) (X ++ (z ∷ Y)) e) h.1, h.2)
      at (inr h) = inr (h.0, ap₂ ◌∷◌ (sym (heads u v (a ++ b) (X ++ (z ∷ Y)) e)) h.1, h.2)

-- a piece of a packet
block_piece : (s n : ℕ) (xs : List (List ℕ)) (X : List (Piece (List ℕ))) (z : Piece (List ℕ)) (Y : List (Piece (List ℕ)))
    → numbered suc s n xs ≡ X ++ (z ∷ Y) → (z.stream ≡ s) × (n ≤ z.count) × (z.count < n + length xs)
unfolding numbered
block_piece s n [] [] z Y e = absurd (omega (arith, ap length e))
block_piece s n [] (v ∷ X) z Y e = absurd (omega (arith, ap length e))
block_piece s n (x ∷ xs) [] z Y e =
    let h : piece s n x ≡ z = heads (piece s n x) z (numbered suc s (suc n) xs) Y e in
    let c : n ≡ z.count = ap (λ (v : Piece (List ℕ)). v.count) h in
    (sym (ap (λ (v : Piece (List ℕ)). v.stream) h), omega arith, omega arith)
block_piece s n (x ∷ xs) (v ∷ X) z Y e =
    let r = block_piece s (suc n) xs X z Y (tails (piece s n x) v (numbered suc s (suc n) xs) (X ++ (z ∷ Y)) e) in
    (r.0, omega (arith, r.1), omega (arith, r.2))

-- packets of which nothing can have arrived
first_above : (s n : ℕ) (xs : List (List ℕ)) (F : ℕ → ℕ) (T : List (Piece (List ℕ))) → 0 < length xs → Above F (numbered suc s n xs ++ T)
    → F s ≤ n
unfolding numbered
first_above s n [] F T l h = absurd (omega arith)
first_above s n (x ∷ xs) F T l h = h.0

nothing : (ps : List (ℕ × List ℕ)) (N F : ℕ → ℕ) (U : List (Piece (List ℕ))) (pre : List Arrival) → Wholes ps
    → Above F (U ++ numbered_all suc N ps) → Bounded F pre → complete N pre ps ≡ []
unfolding complete numbered_all
nothing [] N F U pre w h b = refl
nothing (p ∷ ps) N F U pre w h b =
    let s : ℕ = p.0 in
    let xs : List (List ℕ) = cut (pieces s) p.1 in
    let long : length xs ≡ pieces s = length_cut (pieces s) p.1 in
    let some : 0 < pieces s = ltb-true 0 (pieces s) w.0.0 in
    let G : ℕ → ℕ = bound F U in
    let low : G s ≤ N s = first_above s (N s) xs G _ (omega arith) (above_back U F _ h) in
    let out : all_among (pieces s) (N s) (arrived s pre) ≡ false =
    same_bool_lem (all_among (pieces s) (N s) (arrived s pre)) false
    (λ e. absurd (omega (arith, bounded_on U F _ pre h b s (N s + 0) (all_in (pieces s) (N s) (arrived s pre) e 0 some))))
    (λ e. absurd (false≢true e)) in
    let moved : N s + pieces s ≡ after suc (N s) xs = sym (after-suc (N s) xs ∙ ap (λ (m : ℕ). N s + m) long) in
    rw (out, moved)
    (nothing ps (replaced N s (after suc (N s) xs)) F (U ++ numbered suc s (N s) xs) pre w.1
    (rw (append_assoc U (numbered suc s (N s) xs) (numbered_all suc (replaced N s (after suc (N s) xs)) ps)) h) b)

-- one arrival that is no repeat: z is its piece, and no piece from z on has arrived before
module _ (pre : List Arrival) (p : Polled) (z : Piece (List ℕ)) (Y : List (Piece (List ℕ))) (G : ℕ → ℕ) (stream : z.stream ≡ p.stream)
    (count : z.count ≡ p.number) (above : Above G (z ∷ Y)) (bounded : Bounded G pre) where
  bounded_post : Bounded (replaced G z.stream (suc z.count)) (pre ++ (own p ∷ []))
  unfolding replaced
  bounded_post t n i = by (in_less t n pre p i)
    where
      new : (b : Bool) → eqb z.stream t ≡ b → (p.stream ≡ t) × (n ≡ p.number) → n < cond b (suc z.count) (G t)
      new true e h = omega (arith, h.1)
      new false e h = absurd (eqb-false z.stream t e (stream ∙ h.0))

      by : In n (arrived t pre) ⊎ ((p.stream ≡ t) × (n ≡ p.number)) → n < replaced G z.stream (suc z.count) t
      by (inl h) = omega (arith, bounded t n h, put-above G z.stream z.count t above.0)
      by (inr h) = new (eqb z.stream t) refl h

  abbrev Grows : (ℕ → ℕ) → List (ℕ × List ℕ) → Type 0
  Grows N ps = (D : List (ℕ × List ℕ)) × (complete N (pre ++ (own p ∷ [])) ps ≡ complete N pre ps ++ D)

  grows : (ps : List (ℕ × List ℕ)) (N : ℕ → ℕ) (X : List (Piece (List ℕ))) → Wholes ps → numbered_all suc N ps ≡ X ++ (z ∷ Y) → Grows N ps
  unfolding complete numbered_all replaced
  grows [] N X w e = absurd (omega (arith, ap length e, length-append X (z ∷ Y)))
  grows (q ∷ ps) N X w e =
      by (where_is (numbered suc q.0 (N q.0) (cut (pieces q.0) q.1)) _ X z Y e)
      (λ X' k. grows ps (replaced N q.0 (after suc (N q.0) (cut (pieces q.0) q.1))) X' w.1 k)
    where
      s : ℕ
      s = q.0

      xs : List (List ℕ)
      xs = cut (pieces q.0) q.1

      M : ℕ → ℕ
      M = replaced N q.0 (after suc (N q.0) (cut (pieces q.0) q.1))

      moved : N q.0 + pieces q.0 ≡ after suc (N q.0) (cut (pieces q.0) q.1)
      moved = sym (after-suc (N q.0) xs ∙ ap (λ (m : ℕ). N q.0 + m) (length_cut (pieces q.0) q.1))

      whole : List Arrival → Bool
      whole ys = all_among (pieces q.0) (N q.0) (arrived q.0 ys)

      -- z is a later packet's
      later : There (numbered suc q.0 (N q.0) xs) (numbered_all suc M ps) X z Y → Grows M ps → Grows N (q ∷ ps)
      later h r =
          let same : whole (pre ++ (own p ∷ [])) ≡ whole pre =
          all_same (pieces q.0) (N q.0) (arrived q.0 pre) (arrived q.0 (pre ++ (own p ∷ [])))
          (λ m i. in_more q.0 m pre (own p ∷ []) i)
          (λ j l i. old j l (in_less q.0 (N q.0 + j) pre p i)) in
          (r.0, rw (moved, same, r.1) (front (whole pre)))
        where
          beyond : M z.stream ≤ z.count
          beyond = above_ge h.0 M z Y (subst (Above M) h.2 (above-all ps M M (λ t. omega arith)))

          next : p.stream ≡ q.0 → N q.0 + pieces q.0 ≤ p.number
          next k =
              let at-z : M z.stream ≡ after suc (N q.0) xs =
              ap (λ (b : Bool). cond b (after suc (N q.0) xs) (N z.stream)) (eq-eqb q.0 z.stream (sym (stream ∙ k))) in
              omega (arith, beyond, at-z, moved, count)

          old : (j : ℕ) → j < pieces q.0 → In (N q.0 + j) (arrived q.0 pre) ⊎ ((p.stream ≡ q.0) × (N q.0 + j ≡ p.number))
              → In (N q.0 + j) (arrived q.0 pre)
          old j l (inl i) = i
          old j l (inr k) = absurd (omega (arith, next k.0, k.1))

          front : (b : Bool) → cond b (q ∷ (complete M pre ps ++ r.0)) (complete M pre ps ++ r.0)
              ≡ cond b (q ∷ complete M pre ps) (complete M pre ps) ++ r.0
          front true = refl
          front false = refl

      -- z is a piece of this packet, so nothing of later ones has arrived
      here : Here (numbered suc q.0 (N q.0) xs) (numbered_all suc M ps) X z Y → Grows N (q ∷ ps)
      here h =
          let spot = block_piece q.0 (N q.0) xs X z h.0 h.1 in
          let all : Above G (z ∷ (h.0 ++ numbered_all suc M ps)) = subst (λ (l : List (Piece (List ℕ))). Above G (z ∷ l)) h.2 above in
          let none-pre : complete M pre ps ≡ [] = nothing ps M G (z ∷ h.0) pre w.1 all bounded in
          let none-post : complete M (pre ++ (own p ∷ [])) ps ≡ [] =
          nothing ps M (replaced G z.stream (suc z.count)) h.0 (pre ++ (own p ∷ [])) w.1 all.1 bounded_post in
          let missing : whole pre ≡ false =
          same_bool_lem (whole pre) false
          (λ e. absurd (gone spot (all_in (pieces q.0) (N q.0) (arrived q.0 pre) e)))
          (λ e. absurd (false≢true e)) in
          (cond (whole (pre ++ (own p ∷ []))) (q ∷ []) [], rw (moved, none-pre, none-post, missing))
        where
          gone : (z.stream ≡ q.0) × (N q.0 ≤ z.count) × (z.count < N q.0 + length xs)
              → ((j : ℕ) → j < pieces q.0 → In (N q.0 + j) (arrived q.0 pre)) → ⊥
          gone spot f =
              let j : ℕ = z.count - N q.0 in
              let i = f j (omega (arith, spot.1, spot.2, length_cut (pieces q.0) q.1)) in
              omega (arith, bounded q.0 (N q.0 + j) i, above.0, ap G spot.0, spot.1)

      by : Here (numbered suc q.0 (N q.0) xs) (numbered_all suc M ps) X z Y
          ⊎ There (numbered suc q.0 (N q.0) xs) (numbered_all suc M ps) X z Y
          → ((X' : List (Piece (List ℕ))) → numbered_all suc M ps ≡ X' ++ (z ∷ Y) → Grows M ps) → Grows N (q ∷ ps)
      by (inl h) ih = here h
      by (inr h) ih = later h (ih h.0 h.2)

-- ---- along the way

-- Where arrivals `pre` have come and `ys` are to come, of the pieces of packets `sent`: those that have passed, those that are
-- still to come, and bounds between them.
pub record Stands (sent : List (ℕ × List ℕ)) (pre ys : List Arrival) : Type 0 where
  passed : List (Piece (List ℕ))
  coming : List (Piece (List ℕ))
  bounds : ℕ → ℕ
  split : numbered_all suc (λ s. 0) sent ≡ passed ++ coming
  above : Above bounds coming
  below : Bounded bounds pre
  goes : Orderly pre coming ys

abbrev pub More : List (ℕ × List ℕ) → List Arrival → List Arrival → Type 0
More sent pre post = (D : List (ℕ × List ℕ)) × (complete (λ s. 0) post sent ≡ complete (λ s. 0) pre sent ++ D)

-- an arrival that adds no number
idles : (sent : List (ℕ × List ℕ)) (pre : List Arrival) (y : Arrival) (ys : List Arrival) → (k : Stands sent pre (y ∷ ys))
    → Orderly (pre ++ (y ∷ [])) k.coming ys
    → ((t n : ℕ) → In n (arrived t (pre ++ (y ∷ []))) → In n (arrived t pre))
    → Stands sent (pre ++ (y ∷ [])) ys × More sent pre (pre ++ (y ∷ []))
idles sent pre y ys k o f = (
  record {
    passed = k.passed;
    coming = k.coming;
    bounds = k.bounds;
    split = k.split;
    above = k.above;
    below = λ t n i. k.below t n (f t n i);
    goes = o;
  },
  ([], complete-same pre (pre ++ (y ∷ [])) (λ t n i. in_more t n pre (y ∷ []) i) f sent (λ s. 0) ∙ sym (append-nil _)),
)

pub advance : (sent : List (ℕ × List ℕ)) → Wholes sent → (pre : List Arrival) (y : Arrival) (ys : List Arrival) → Stands sent pre (y ∷ ys)
    → Stands sent (pre ++ (y ∷ [])) ys × More sent pre (pre ++ (y ∷ []))
advance sent w pre (strange f) ys k = idles sent pre (strange f) ys k k.goes (λ t n i. in_noise t n pre f i)
advance sent w pre (own p) ys k = by k.goes
  where
    by : (In p.number (arrived p.stream pre) × Orderly (pre ++ (own p ∷ [])) k.coming ys)
        ⊎ ((X : List (Piece (List ℕ))) × (z : Piece (List ℕ)) × (Y : List (Piece (List ℕ))) × Next p k.coming X z Y
        × Orderly (pre ++ (own p ∷ [])) Y ys)
        → Stands sent (pre ++ (own p ∷ [])) ys × More sent pre (pre ++ (own p ∷ []))
    by (inl h) = idles sent pre (own p) ys k h.1 (λ t n i. old t n (in_less t n pre p i))
      where
        old : (t n : ℕ) → In n (arrived t pre) ⊎ ((p.stream ≡ t) × (n ≡ p.number)) → In n (arrived t pre)
        old t n (inl i) = i
        old t n (inr e) =
            subst (λ (u : ℕ). In n (arrived u pre)) e.0 (subst (λ (m : ℕ). In m (arrived p.stream pre)) (sym e.1) h.0)
    by (inr h) =
        let X : List (Piece (List ℕ)) = h.0 in
        let z : Piece (List ℕ) = h.1 in
        let Y : List (Piece (List ℕ)) = h.2 in
        let G : ℕ → ℕ = bound k.bounds X in
        let up : Above k.bounds (X ++ (z ∷ Y)) = subst (Above k.bounds) h.3.0 k.above in
        let here : Above G (z ∷ Y) = above_back X k.bounds (z ∷ Y) up in
        let low : Bounded G pre = bounded_on X k.bounds (z ∷ Y) pre up k.below in
        let all : numbered_all suc (λ s. 0) sent ≡ (k.passed ++ X) ++ (z ∷ Y) =
        k.split ∙ ap (λ l. k.passed ++ l) h.3.0 ∙ sym (append_assoc k.passed X (z ∷ Y)) in (
          record {
            passed = (k.passed ++ X) ++ (z ∷ []);
            coming = Y;
            bounds = replaced G z.stream (suc z.count);
            split = all ∙ sym (append_assoc (k.passed ++ X) (z ∷ []) Y);
            above = here.1;
            below = bounded_post pre p z Y G h.3.1 h.3.2 here low;
            goes = h.4;
          },
          grows pre p z Y G h.3.1 h.3.2 here low sent (λ s. 0) (k.passed ++ X) w all,
        )

-- before anything has arrived
pub stands : (sent : List (ℕ × List ℕ)) (ps : List Polled) (fates : List Fate) → Sub ps (numbered_all suc (λ s. 0) sent)
    → Stands sent [] (arrivals_from (λ s. none) ps fates)
unfolding own_of
stands sent ps fates h =
    record {
      passed = [];
      coming = numbered_all suc (λ s. 0) sent;
      bounds = λ s. 0;
      split = refl;
      above = above-all sent (λ s. 0) (λ s. 0) (λ t. omega arith);
      below = λ t n i. absurd i;
      goes = orderly fates (λ s. none) ps (numbered_all suc (λ s. 0) sent) [] (later_sub [] ps _ h) (λ t. tt);
    }

-- nothing arrived, nothing whole
pub none-complete : (sent : List (ℕ × List ℕ)) → Wholes sent → complete (λ s. 0) [] sent ≡ []
unfolding own_of
none-complete sent w =
    nothing sent (λ s. 0) (λ s. 0) [] [] w (above-all sent (λ s. 0) (λ s. 0) (λ t. omega arith)) (λ t n i. absurd i)
