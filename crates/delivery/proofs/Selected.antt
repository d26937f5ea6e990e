-- The packets of one stream all of whose pieces arrived, as an increasing list of places; such a list is known by its members.
-- Assumes nothing.
use mathlib.Core.Path.{◌≡◌, refl, sym, ap, ap₂, ◌∙◌, subst}
use mathlib.Core.Logic.{◌⊎◌, inl, inr, ◌↔◌}
use mathlib.Core.Bool.{Bool, true, false, cond, ◌&&◌, ◌||◌, false≢true}
use mathlib.Core.List.{List, [], ◌∷◌, ◌++◌, map}
use Prim.Native.Nat.{ℕ, zero, suc, ◌+◌, ◌*◌, ◌≤◌, ◌<◌}
use native.Mathlib.Omega.{arith}
use native.Mathlib.Decide.{dec_le}
use native.Mathlib.Nat.{suc-mul}
use lib.Dec.{eqb}
use lib.ListN.{length, get_or, length-append}
use lib.Seq.{get_or-append_seam, append_snoc}
use borrow.Author.Tests.{eqb-true, eq-eqb}
use Rattle.delivery.specs.HandedOut.{among, all_among}
use Rattle.polls.proofs.Arrivals.{In, Increasing}

-- ---- an increasing list is known by its members

heads : (p q : ℕ) (ps qs : List ℕ) → ((x : ℕ) → In x ps → p < x) → ((x : ℕ) → In x qs → q < x) → (p ≡ q) ⊎ In p qs
    → (q ≡ p) ⊎ In q ps → p ≡ q
heads p q ps qs hp hq (inl h) j = h
heads p q ps qs hp hq (inr h) (inl j) = sym j
heads p q ps qs hp hq (inr h) (inr j) = absurd (omega (arith, hq p h, hp q j))

below : (p q : ℕ) (ps qs : List ℕ) → p ≡ q → ((x : ℕ) → In x ps → p < x) → ((x : ℕ) → In x ps → (x ≡ q) ⊎ In x qs) → (x : ℕ)
    → In x ps → In x qs
below p q ps qs e hp f x i = at (f x i)
  where
    at : (x ≡ q) ⊎ In x qs → In x qs
    at (inl h) = absurd (omega (arith, hp x i))
    at (inr h) = h

pub same_members : (ps qs : List ℕ) → Increasing ps → Increasing qs → ((x : ℕ) → In x ps → In x qs) → ((x : ℕ) → In x qs → In x ps)
    → ps ≡ qs
same_members [] [] ip iq f g = refl
same_members [] (q ∷ qs) ip iq f g = absurd (g q (inl refl))
same_members (p ∷ ps) [] ip iq f g = absurd (f p (inl refl))
same_members (p ∷ ps) (q ∷ qs) ip iq f g =
    let e : p ≡ q = heads p q ps qs ip.0 iq.0 (f p (inl refl)) (g q (inl refl)) in
    ap₂ ◌∷◌ e
    (same_members ps qs ip.1 iq.1 (below p q ps qs e ip.0 (λ x i. f x (inr i)))
    (below q p qs ps (sym e) iq.0 (λ x i. g x (inr i))))

-- ---- the tests as facts

pub among_in : (n : ℕ) (ms : List ℕ) → among n ms ≡ true → In n ms
among_in n [] h = absurd (false≢true h)
among_in n (m ∷ ms) h = at (eqb n m) refl h (λ k. among_in n ms k)
  where
    at : (b : Bool) → eqb n m ≡ b → (b || among n ms) ≡ true → (among n ms ≡ true → In n ms) → (n ≡ m) ⊎ In n ms
    at true e k ih = inl (eqb-true n m e)
    at false e k ih = inr (ih k)

pub in_among : (n : ℕ) (ms : List ℕ) → In n ms → among n ms ≡ true
in_among n [] h = absurd h
in_among n (m ∷ ms) (inl h) = rw (eq-eqb n m h)
in_among n (m ∷ ms) (inr h) = at (eqb n m) (in_among n ms h)
  where
    at : (b : Bool) → among n ms ≡ true → (b || among n ms) ≡ true
    at true k = refl
    at false k = k

pub all_in : (k n : ℕ) (ms : List ℕ) → all_among k n ms ≡ true → (j : ℕ) → j < k → In (n + j) ms
all_in zero n ms h j l = absurd (omega arith)
all_in (suc k) n ms h j l = at (among n ms) refl h (λ t i m. all_in k (suc n) ms t i m) j l
  where
    at : (b : Bool) → among n ms ≡ b → (b && all_among k (suc n) ms) ≡ true
        → (all_among k (suc n) ms ≡ true → (i : ℕ) → i < k → In (suc n + i) ms) → (j : ℕ) → j < suc k → In (n + j) ms
    at true e t ih zero l = subst (λ (x : ℕ). In x ms) (omega arith) (among_in n ms e)
    at true e t ih (suc j) l = subst (λ (x : ℕ). In x ms) (omega arith) (ih t j (omega arith))
    at false e t ih j l = absurd (false≢true t)

pub in_all : (k n : ℕ) (ms : List ℕ) → ((j : ℕ) → j < k → In (n + j) ms) → all_among k n ms ≡ true
in_all zero n ms f = refl
in_all (suc k) n ms f =
    rw (in_among n ms (subst (λ (x : ℕ). In x ms) (omega arith) (f 0 (omega arith))))
    (in_all k (suc n) ms (λ j l. subst (λ (x : ℕ). In x ms) (omega arith) (f (suc j) (omega arith))))

-- of packets of k pieces each, the first of which begins at number n: those all of whose pieces are among ms
unfoldable pub complete_of : ℕ → ℕ → List ℕ → List (List ℕ) → List (List ℕ)
complete_of k n ms [] = []
complete_of k n ms (x ∷ xs) = cond (all_among k n ms) (x ∷ complete_of k (n + k) ms xs) (complete_of k (n + k) ms xs)

-- ---- the places of the packets all of whose pieces are among ms

module _ (k : ℕ) (ms : List ℕ) where
  -- of packets the first of which has place i and begins at number n
  unfoldable places : ℕ → ℕ → List (List ℕ) → List ℕ
  places i n [] = []
  places i n (x ∷ xs) = cond (all_among k n ms) (i ∷ places (suc i) (n + k) xs) (places (suc i) (n + k) xs)

  places_complete : (xs pre L : List (List ℕ)) (i n : ℕ) → L ≡ pre ++ xs → i ≡ length pre
      → complete_of k n ms xs ≡ map (λ q. get_or L q []) (places i n xs)
  unfolding places complete_of
  places_complete [] pre L i n e h = refl
  places_complete (x ∷ xs) pre L i n e h =
      at (all_among k n ms)
      (places_complete xs (pre ++ (x ∷ [])) L (suc i) (n + k) (e ∙ sym (append_snoc pre x xs)) (omega (arith, length-append pre (x ∷ []))))
    where
      at : (b : Bool) → complete_of k (n + k) ms xs ≡ map (λ q. get_or L q []) (places (suc i) (n + k) xs)
          → cond b (x ∷ complete_of k (n + k) ms xs) (complete_of k (n + k) ms xs)
          ≡ map (λ q. get_or L q []) (cond b (i ∷ places (suc i) (n + k) xs) (places (suc i) (n + k) xs))
      at true f = ap₂ ◌∷◌ (sym (rw (e, h) (get_or-append_seam pre x xs []))) f
      at false f = f

  abbrev Placed : ℕ → ℕ → ℕ → Type 0
  Placed i many q = (i ≤ q) × (q < i + many) × (all_among k (q * k) ms ≡ true)

  next : (i n : ℕ) → n ≡ i * k → n + k ≡ suc i * k
  next i n h = rw h (sym (suc-mul i k))

  place_from : (xs : List (List ℕ)) (i n q : ℕ) → n ≡ i * k → In q (places i n xs) → Placed i (length xs) q
  unfolding places
  place_from [] i n q h l = absurd l
  place_from (x ∷ xs) i n q h l = at (all_among k n ms) refl l (λ m. place_from xs (suc i) (n + k) q (next i n h) m)
    where
      on : Placed (suc i) (length xs) q → Placed i (suc (length xs)) q
      on m = (omega (arith, m.0), omega (arith, m.1), m.2)

      at : (b : Bool) → all_among k n ms ≡ b → In q (cond b (i ∷ places (suc i) (n + k) xs) (places (suc i) (n + k) xs))
          → (In q (places (suc i) (n + k) xs) → Placed (suc i) (length xs) q) → Placed i (suc (length xs)) q
      at true e (inl m) ih =
          (omega arith, omega arith, subst (λ (y : ℕ). all_among k y ms ≡ true) (h ∙ ap (λ (y : ℕ). y * k) (sym m)) e)
      at true e (inr m) ih = on (ih m)
      at false e m ih = on (ih m)

  place_to : (xs : List (List ℕ)) (i n q : ℕ) → n ≡ i * k → Placed i (length xs) q → In q (places i n xs)
  unfolding places
  place_to [] i n q h l = absurd (omega (arith, l.0, l.1))
  place_to (x ∷ xs) i n q h l = at (all_among k n ms) refl (dec_le q i) (λ m. place_to xs (suc i) (n + k) q (next i n h) m)
    where
      at : (b : Bool) → all_among k n ms ≡ b → Dec (q ≤ i) → (Placed (suc i) (length xs) q → In q (places (suc i) (n + k) xs))
          → In q (cond b (i ∷ places (suc i) (n + k) xs) (places (suc i) (n + k) xs))
      at true e (yes m) ih = inl (omega (arith, l.0))
      at true e (no m) ih = inr (ih (omega arith, omega (arith, l.1), l.2))
      at false e (yes m) ih =
          let z : q ≡ i = omega (arith, l.0) in
          absurd (false≢true (sym e ∙ ap (λ (y : ℕ). all_among k y ms) (h ∙ ap (λ (y : ℕ). y * k) (sym z)) ∙ l.2))
      at false e (no m) ih = ih (omega arith, omega (arith, l.1), l.2)

  places_increasing : (xs : List (List ℕ)) (i n : ℕ) → n ≡ i * k → Increasing (places i n xs)
  unfolding places
  places_increasing [] i n h = tt
  places_increasing (x ∷ xs) i n h = at (all_among k n ms) (places_increasing xs (suc i) (n + k) (next i n h))
    where
      at : (b : Bool) → Increasing (places (suc i) (n + k) xs)
          → Increasing (cond b (i ∷ places (suc i) (n + k) xs) (places (suc i) (n + k) xs))
      at true f = ((λ p l. omega (arith, (place_from xs (suc i) (n + k) p (next i n h) l).0)), f)
      at false f = f

  -- THE LAW: places that are known by their members
  pub selected : (xs : List (List ℕ)) (qs : List ℕ) → Increasing qs → ((q : ℕ) → In q qs ↔ ((j : ℕ) → j < k → In (q * k + j) ms))
      → ((q : ℕ) → In q qs → q < length xs) → map (λ q. get_or xs q []) qs ≡ complete_of k 0 ms xs
  selected xs qs up is lt =
      ap (map (λ q. get_or xs q []))
      (same_members qs (places 0 0 xs) up (places_increasing xs 0 0 (omega arith))
      (λ q l. place_to xs 0 0 q (omega arith) (omega arith, omega (arith, lt q l), in_all k (q * k) ms ((is q).0 l)))
      (λ q l. (is q).1 (all_in k (q * k) ms (place_from xs 0 0 q (omega arith) l).2)))
      ∙ sym (places_complete xs [] xs 0 0 refl refl)
