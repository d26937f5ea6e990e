-- One stream's record while pieces arrive: it finishes exactly the packets all of whose pieces arrived, once each, in order, where
-- each arrival is the last one once more or a later one with at most 4,094 pieces missing before it. k pieces make a packet; bodies
-- are of any form.
-- Assumes nothing.
use mathlib.Core.Path.{◌≡◌, refl, sym, ap, ap₂, ◌∙◌, subst}
use mathlib.Core.Logic.{◌⊎◌, inl, inr, ◌↔◌}
use mathlib.Core.Bool.{Bool, true, false, ◌&&◌, true≢false, false≢true}
use mathlib.Core.List.{List, [], ◌∷◌, ◌++◌, map}
use Prim.Native.Nat.{ℕ, zero, suc, ◌+◌, ◌-◌, ◌*◌, ◌/◌, ◌%◌, ◌≤◌, ◌<◌, zero-le}
use native.Mathlib.Nat.{mod-lt, div-add-mod', div-lt_iff_lt-mul, mod-add-mod, mul-le-mul_right, add-zero, mod_self, zero-mod}
use native.Mathlib.Omega.{arith}
use native.Mathlib.Decide.{dec_le}
use lib.Dec.{eqb}
use lib.Arith.{digits_div}
use borrow.Author.Tests.{eqb-true, eqb-false, eq-eqb, ne_eqb}
use Rattle.paper.specs.Reader.{Track, fresh, distance, ArrivalEffect, repeated, taken, finished, gathers, moves, arrive}

-- ---- what pieces do to a record

-- the record that an arrival leaves of t, and the packet that it finishes, if any
abbrev pub Out : Type 0 → Type 0
Out A = Track A × List (List A)

abbrev pub left : {A : Type 0} → Track A → ArrivalEffect A → Out A
left t repeated = (t, [])
left t (taken u) = (u, [])
left t (finished u g) = (u, g ∷ [])

abbrev pub step : {A : Type 0} → ℕ → Track A → ℕ → A → Out A
step k t count x = left t (arrive k t count x)

-- the packets finished while pieces arrive, each with its count, in order
unfoldable pub run : {A : Type 0} → ℕ → Track A → List (ℕ × A) → List (List A)
run k t [] = []
run k t (x ∷ xs) = (step k t x.0 x.1).1 ++ run k (step k t x.0 x.1).0 xs

-- ---- what is sent: piece n of a stream has the count n modulo 4096 and the body b n

abbrev pub piece : {A : Type 0} → (ℕ → A) → ℕ → ℕ × A
piece b n = (n % 4096, b n)

-- b n, b (n + 1), .. : j bodies
unfoldable pub bodies : {A : Type 0} → (ℕ → A) → ℕ → ℕ → List A
bodies b n zero = []
bodies b n (suc j) = b n ∷ bodies b (suc n) j

-- packet q is the pieces q * k to q * k + k - 1
abbrev pub packet : {A : Type 0} → ℕ → (ℕ → A) → ℕ → List A
packet k b q = bodies b (q * k) k

-- ---- what arrives

abbrev pub In : ℕ → List ℕ → Type 0
In x [] = ⊥
In x (y ∷ ys) = (x ≡ y) ⊎ In x ys

-- The numbers of the pieces that arrive. `e` pieces have passed (arrived or gone missing): the next arrival is the last one once
-- more (number e - 1), or a later one, before which at most 4,094 pieces go missing.
abbrev pub Arrives : ℕ → List ℕ → Type 0
Arrives e [] = Unit {0}
Arrives e (m ∷ ms) = ((suc m ≡ e) ⊎ ((e ≤ m) × (m ≤ e + 4094))) × Arrives (suc m) ms

-- each number is below all that follow it
abbrev pub Increasing : List ℕ → Type 0
Increasing [] = Unit {0}
Increasing (q ∷ qs) = ((p : ℕ) → In p qs → q < p) × Increasing qs

-- Exactly the packets all of whose pieces are among `ns`, once each, in order, every body true.
abbrev pub Finishes : {A : Type 0} → ℕ → (ℕ → A) → List ℕ → List (List A) → Type 0
Finishes k b ns out =
    (qs : List ℕ) × Increasing qs × ((q : ℕ) → In q qs ↔ ((j : ℕ) → j < k → In (q * k + j) ns)) × (out ≡ map (packet k b) qs)

-- ---- numbers

dist : (last e m : ℕ) → last < 4096 → (last + 1) % 4096 ≡ e % 4096 → e ≤ m + 1 → m ≤ e + 4094
    → distance last (m % 4096) ≡ m + 1 - e
dist last e m h1 h2 h3 h4 = omega arith

last-next : (m : ℕ) → (m % 4096 + 1) % 4096 ≡ suc m % 4096
last-next m = omega arith

place-next : (k place e m : ℕ) → (place + 1) % k ≡ e % k → e ≤ m → (place + (m + 1 - e)) % k ≡ m % k
place-next k place e m h l =
    ap (λ (x : ℕ). x % k) (let r : place + (m + 1 - e) ≡ (place + 1) + (m - e) = omega arith in r)
    ∙ sym (mod-add-mod (place + 1) k (m - e)) ∙ ap (λ (x : ℕ). (x + (m - e)) % k) h ∙ mod-add-mod e k (m - e)
    ∙ ap (λ (x : ℕ). x % k) (let r : e + (m - e) ≡ m = omega arith in r)

-- ---- lists

bodies_snoc : {A : Type 0} (b : ℕ → A) (n j : ℕ) → bodies b n (suc j) ≡ bodies b n j ++ (b (n + j) ∷ [])
unfolding bodies
bodies_snoc b n zero = ap (λ (x : ℕ). b x ∷ []) (sym (add-zero n))
bodies_snoc b n (suc j) = ap (λ l. b n ∷ l) (bodies_snoc b (suc n) j ∙ ap (λ (x : ℕ). bodies b (suc n) j ++ (b x ∷ [])) (let r : suc n + j ≡ n + suc j = omega arith in r))

-- one more body behind the P bodies from n on
bodies_join : {A : Type 0} (b : ℕ → A) (n P m : ℕ) (g : List A) → g ≡ bodies b n P → n + P ≡ m → g ++ (b m ∷ []) ≡ bodies b n (suc P)
bodies_join b n P m g eq h =
    ap (λ l. l ++ (b m ∷ [])) eq ∙ ap (λ (x : ℕ). bodies b n P ++ (b x ∷ [])) (sym h) ∙ sym (bodies_snoc b n P)

bodies_none : {A : Type 0} (b : ℕ → A) (n P : ℕ) → P ≡ 0 → [] ≡ bodies b n P
unfolding bodies
bodies_none b n P h = rw h

arrives-first : (e m : ℕ) → (suc m ≡ e) ⊎ ((e ≤ m) × (m ≤ e + 4094)) → e ≤ m + 1
arrives-first e m (inl h) = omega arith
arrives-first e m (inr h) = omega arith

arrives_from : (e : ℕ) (ms : List ℕ) (x : ℕ) → Arrives e ms → In x ms → e ≤ x + 1
arrives_from e [] x a i = absurd i
arrives_from e (m ∷ ms) x a (inl h) = let r = arrives-first e m a.0 in omega arith
arrives_from e (m ∷ ms) x a (inr h) = let r = arrives-first e m a.0 in omega (arith, arrives_from (suc m) ms x a.1 h)

-- the number of a piece that arrives from m on
in_from : (m : ℕ) (ms : List ℕ) (x : ℕ) → Arrives (suc m) ms → In x (m ∷ ms) → m ≤ x
in_from m ms x a (inl h) = omega arith
in_from m ms x a (inr h) = omega (arith, arrives_from (suc m) ms x a h)

in_tail : (m : ℕ) (ms : List ℕ) (x : ℕ) → m < x → In x (m ∷ ms) → In x ms
in_tail m ms x l (inl h) = absurd (omega arith)
in_tail m ms x l (inr h) = h

-- ---- the packets that are still to come, where e pieces have passed and the gathered ones are those from a on

abbrev Want : ℕ → ℕ → ℕ → ℕ → List ℕ → Type 0
Want k a e q ms = (a ≤ q * k) × ((j : ℕ) → j < k → e ≤ q * k + j → In (q * k + j) ms)

record Inv {A : Type 0} (k : ℕ) (b : ℕ → A) (a e : ℕ) (s : Track A) : Type 0 where
  last_lt : s.last < 4096
  last_is : (s.last + 1) % 4096 ≡ e % 4096
  place_is : (s.place + 1) % k ≡ e % k
  low : a ≤ e
  high : e < a + k
  idle : s.running ≡ false → a ≡ e
  busy : s.running ≡ true → (a ≡ e / k * k) × (s.gathered ≡ bodies b a (e - a))

abbrev Result : {A : Type 0} → ℕ → (ℕ → A) → ℕ → ℕ → List ℕ → List (List A) → Type 0
Result k b a e ms out = (qs : List ℕ) × Increasing qs × ((q : ℕ) → In q qs ↔ Want k a e q ms) × (out ≡ map (packet k b) qs)

-- nothing is handed out by this step
keep : {A : Type 0} (k : ℕ) (b : ℕ → A) (a e a' e' : ℕ) (ms ms' : List ℕ) (out : List (List A))
    → ((q : ℕ) → Want k a' e' q ms' ↔ Want k a e q ms) → Result k b a' e' ms' out → Result k b a e ms out
keep k b a e a' e' ms ms' out f r = (r.0, r.1, (λ q. (λ i. (f q).0 ((r.2 q).0 i), λ w. (r.2 q).1 ((f q).1 w))), r.3)

-- packet Q is handed out by this step
hand : {A : Type 0} (k : ℕ) (b : ℕ → A) (a e a' e' : ℕ) (ms ms' : List ℕ) (out : List (List A)) (Q : ℕ) (g : List A)
    → g ≡ packet k b Q → ((q : ℕ) → Want k a' e' q ms' → Q < q) → Want k a e Q ms
    → ((q : ℕ) → Want k a' e' q ms' → Want k a e q ms) → ((q : ℕ) → Want k a e q ms → (q ≡ Q) ⊎ Want k a' e' q ms')
    → Result k b a' e' ms' out → Result k b a e ms (g ∷ out)
hand k b a e a' e' ms ms' out Q g eq lo wQ f f' r =
    (Q ∷ r.0, ((λ p i. lo p ((r.2 p).0 i)), r.1), (λ q. (to q, λ w. from q (f' q w))), cc (eq, r.3))
  where
    to : (q : ℕ) → (q ≡ Q) ⊎ In q r.0 → Want k a e q ms
    to q (inl h) = rw h wQ
    to q (inr h) = f q ((r.2 q).0 h)

    from : (q : ℕ) → (q ≡ Q) ⊎ Want k a' e' q ms' → (q ≡ Q) ⊎ In q r.0
    from q (inl h) = inl h
    from q (inr w) = inr ((r.2 q).1 w)

module _ (k : ℕ) (kp : 0 < k) where
  want_low : (a e m q : ℕ) (ms : List ℕ) → e < a + k → Arrives (suc m) ms → Want k a e q (m ∷ ms) → m / k ≤ q
  want_low a e m q ms h ar w =
      let wa : a ≤ q * k = w.0 in
      let i : In (q * k + (k - 1)) (m ∷ ms) = w.1 (k - 1) (omega arith) (omega arith) in
      let l : m ≤ q * k + (k - 1) = in_from m ms (q * k + (k - 1)) ar i in
      let d : m / k < suc q = (div-lt_iff_lt-mul kp).1 (omega arith) in
      omega arith

  want_later : (a e m q : ℕ) (ms : List ℕ) → e ≤ m → m / k < q → Want k a e q (m ∷ ms) → Want k (suc m) (suc m) q ms
  want_later a e m q ms le l w =
      let h : m < q * k = (div-lt_iff_lt-mul kp).0 l in
      (h, λ j lj g. in_tail m ms (q * k + j) g (w.1 j lj (omega arith)))

  want_back : (a e m q : ℕ) (ms : List ℕ) → a ≤ e → e ≤ m → Want k (suc m) (suc m) q ms → Want k a e q (m ∷ ms)
  want_back a e m q ms la le w = let h : suc m ≤ q * k = w.0 in (omega arith, λ j lj g. inr (w.1 j lj (omega arith)))

  want_above : (m q : ℕ) (ms : List ℕ) → Want k (suc m) (suc m) q ms → m / k < q
  want_above m q ms w = (div-lt_iff_lt-mul kp).1 w.0

  le_split : (m n : ℕ) → m ≤ n → (n ≡ m) ⊎ (m < n)
  le_split m n h = elim (dec_le n m) [ yes l ↦ inl (omega arith) | no l ↦ inr (omega arith) ]

  -- a packet that is to come is that of piece m, or a later one
  want_cases : (a e m q : ℕ) (ms : List ℕ) → e < a + k → e ≤ m → Arrives (suc m) ms → Want k a e q (m ∷ ms)
      → (q ≡ m / k) ⊎ Want k (suc m) (suc m) q ms
  want_cases a e m q ms he le ar w = at (le_split (m / k) q (want_low a e m q ms he ar w))
    where
      at : (q ≡ m / k) ⊎ (m / k < q) → (q ≡ m / k) ⊎ Want k (suc m) (suc m) q ms
      at (inl h) = inl h
      at (inr h) = inr (want_later a e m q ms le h w)

  -- the gathering is dropped: packet m / k is not to come
  dropped : (a e m : ℕ) (ms : List ℕ) → a ≤ e → e < a + k → e ≤ m → Arrives (suc m) ms → (Want k a e (m / k) (m ∷ ms) → ⊥)
      → (q : ℕ) → Want k (suc m) (suc m) q ms ↔ Want k a e q (m ∷ ms)
  dropped a e m ms la he le ar none q = (λ w. want_back a e m q ms la le w, λ w. at w (want_cases a e m q ms he le ar w))
    where
      at : Want k a e q (m ∷ ms) → (q ≡ m / k) ⊎ Want k (suc m) (suc m) q ms → Want k (suc m) (suc m) q ms
      at w (inl h) = absurd (none (subst (λ (x : ℕ). Want k a e x (m ∷ ms)) h w))
      at w (inr h) = h

  -- the gathering runs on
  goes_on : (a e m : ℕ) (ms : List ℕ) → e < a + k → e ≤ m → Arrives (suc m) ms → a ≤ m / k * k → ((x : ℕ) → e ≤ x → m / k * k ≤ x → m ≤ x)
      → (q : ℕ) → Want k (m / k * k) (suc m) q ms ↔ Want k a e q (m ∷ ms)
  goes_on a e m ms he le ar la gapless q = (to, from)
    where
      here : (x : ℕ) → (suc m ≤ x → In x ms) → m ≤ x → In x (m ∷ ms)
      here x f h = at (le_split m x h)
        where
          at : (x ≡ m) ⊎ (m < x) → In x (m ∷ ms)
          at (inl g) = inl g
          at (inr g) = inr (f g)

      to : Want k (m / k * k) (suc m) q ms → Want k a e q (m ∷ ms)
      to w = let h : m / k * k ≤ q * k = w.0 in (omega arith, λ j lj g. here (q * k + j) (w.1 j lj) (gapless (q * k + j) g (omega arith)))

      from : Want k a e q (m ∷ ms) → Want k (m / k * k) (suc m) q ms
      from w = (mul-le-mul_right k (want_low a e m q ms he ar w), λ j lj g. in_tail m ms (q * k + j) g (w.1 j lj (omega arith)))

and_left : (a b : Bool) → (a && b) ≡ true → a ≡ true
and_left true b h = refl
and_left false b h = h

and_right : (a b : Bool) → (a && b) ≡ true → b ≡ true
and_right true b h = h
and_right false b h = cc

true_and_false : (a b : Bool) → a ≡ true → (a && b) ≡ false → b ≡ false
true_and_false true b h g = g
true_and_false false b h g = cc

module _ {A : Type 0} (k : ℕ) (kp : 0 < k) (b : ℕ → A) where
  -- what is claimed of a step that leaves o, with the pieces ms still to arrive
  After : ℕ → ℕ → ℕ → List ℕ → Out A → Type 0
  After a e m ms o = Result k b a e (m ∷ ms) (o.1 ++ run k o.0 (map (piece b) ms))

  Later : ℕ → List ℕ → Type 0
  Later m ms = (a : ℕ) (s : Track A) → Inv k b a (suc m) s → Result k b a (suc m) ms (run k s (map (piece b) ms))

  -- the record after a piece with which nothing is being gathered
  inv_idle : (m : ℕ) → Inv k b (suc m) (suc m) (record { last = m % 4096; place = m % k; running = false; gathered = [] })
  inv_idle m =
      record {
        last_lt = omega arith;
        last_is = last-next m;
        place_is = mod-add-mod m k 1 ∙ ap (λ (x : ℕ). x % k) (let r : m + 1 ≡ suc m = omega arith in r);
        low = omega arith;
        high = omega arith;
        idle = λ h. refl;
        busy = λ g. absurd (false≢true g);
      }

  inv_busy : (m : ℕ) (g : List A) → m % k + 1 < k → g ≡ bodies b (m / k * k) (suc (m % k))
      → Inv k b (m / k * k) (suc m) (record { last = m % 4096; place = m % k; running = true; gathered = g })
  inv_busy m g h eq =
      let hm = div-add-mod' m k in
      record {
        last_lt = omega arith;
        last_is = last-next m;
        place_is = mod-add-mod m k 1 ∙ ap (λ (x : ℕ). x % k) (let r : m + 1 ≡ suc m = omega arith in r);
        low = omega arith;
        high = omega arith;
        idle = λ f. absurd (true≢false f);
        busy = λ f. (
          ap (λ (x : ℕ). x * k) (sym (ap (λ (x : ℕ). x / k) (let r : suc m ≡ m / k * k + suc (m % k) = omega arith in r) ∙ digits_div (m / k) (omega arith))),
          eq ∙ ap (bodies b (m / k * k)) (omega arith),
        );
      }

  module _ (a e m : ℕ) (ms : List ℕ) (la : a ≤ e) (he : e < a + k) (le : e ≤ m) (ar : Arrives (suc m) ms) (later : Later m ms) where
    -- a gathering that holds the pieces of packet m / k up to m: it is handed out, or runs on
    closes : (s : Track A) (b₃ : Bool) → eqb (m % k) (k - 1) ≡ b₃ → (g : List A) → g ≡ bodies b (m / k * k) (suc (m % k)) → a ≤ m / k * k
        → ((x : ℕ) → e ≤ x → m / k * k ≤ x → m ≤ x) → After a e m ms (left s (gathers b₃ (m % 4096) (m % k) g))
    unfolding After Later
    closes s true t g eq lq gapless =
        let hm = div-add-mod' m k in
        let hp : m % k ≡ k - 1 = eqb-true (m % k) (k - 1) t in
        hand k b a e (suc m) (suc m) (m ∷ ms) ms
        (run k (record { last = m % 4096; place = m % k; running = false; gathered = [] }) (map (piece b) ms)) (m / k) g
        (eq ∙ ap (bodies b (m / k * k)) (omega arith))
        (λ q w. want_above k kp m q ms w)
        (lq, λ j lj g. inl (let r = gapless (m / k * k + j) g (omega arith) in omega arith))
        (λ q w. want_back k kp a e m q ms la le w)
        (λ q w. want_cases k kp a e m q ms he le ar w)
        (later (suc m) (record { last = m % 4096; place = m % k; running = false; gathered = [] }) (inv_idle m))
    closes s false t g eq lq gapless =
        let hm = div-add-mod' m k in
        let hp : ¬ (m % k ≡ k - 1) = eqb-false (m % k) (k - 1) t in
        let pl : m % k < k = mod-lt m kp in
        keep k b a e (m / k * k) (suc m) (m ∷ ms) ms
        (run k (record { last = m % 4096; place = m % k; running = true; gathered = g }) (map (piece b) ms))
        (goes_on k kp a e m ms he le ar lq gapless)
        (later (m / k * k) (record { last = m % 4096; place = m % k; running = true; gathered = g }) (inv_busy m g (omega arith) eq))

    module _ (s : Track A) (inv : Inv k b a e s) where
      -- the three ways of a piece that is no repeat
      goes : (b₁ b₂ : Bool) → eqb (m % k) 0 ≡ b₁ → (eqb (m + 1 - e) 1 && s.running) ≡ b₂
          → After a e m ms (left s (moves b₁ b₂ (eqb (m % k) (k - 1)) (m % 4096) (m % k) s.gathered (b m)))
      unfolding After Later
      goes true b₂ t₁ t₂ =
          let hm = div-add-mod' m k in
          let hp : m % k ≡ 0 = eqb-true (m % k) 0 t₁ in
          closes s (eqb (m % k) (k - 1)) refl (b m ∷ []) (bodies_join b (m / k * k) (m % k) m [] (bodies_none b (m / k * k) (m % k) hp) hm) (omega arith) (λ x h g. omega arith)
      goes false true t₁ t₂ =
          let hm = div-add-mod' m k in
          let d : m + 1 - e ≡ 1 = eqb-true (m + 1 - e) 1 (and_left (eqb (m + 1 - e) 1) s.running t₂) in
          let hr : s.running ≡ true = and_right (eqb (m + 1 - e) 1) s.running t₂ in
          let em : e ≡ m = omega arith in
          let ae : a ≡ m / k * k = rw em at (inv.busy hr).0 in
          closes s (eqb (m % k) (k - 1)) refl (s.gathered ++ (b m ∷ [])) (bodies_join b (m / k * k) (m % k) m s.gathered ((inv.busy hr).1 ∙ ap₂ (bodies b) ae (omega arith)) hm) (omega arith) (λ x h g. omega arith)
      goes false false t₁ t₂ =
          let hm = div-add-mod' m k in
          let hp : ¬ (m % k ≡ 0) = eqb-false (m % k) 0 t₁ in
          keep k b a e (suc m) (suc m) (m ∷ ms) ms
          (run k (record { last = m % 4096; place = m % k; running = false; gathered = [] }) (map (piece b) ms))
          (dropped k kp a e m ms la he le ar (λ w. none hm hp w (le_split k kp e m le)))
          (later (suc m) (record { last = m % 4096; place = m % k; running = false; gathered = [] }) (inv_idle m))
        where
          none : m / k * k + m % k ≡ m → ¬ (m % k ≡ 0) → Want k a e (m / k) (m ∷ ms) → (m ≡ e) ⊎ (e < m) → ⊥
          none hm hp w (inl h) =
              let t : eqb (m + 1 - e) 1 ≡ true = eq-eqb (m + 1 - e) 1 (omega arith) in
              let z : a ≡ e = inv.idle (true_and_false (eqb (m + 1 - e) 1) s.running t t₂) in
              omega (arith, w.0)
          none hm hp w (inr h) =
              let pl : m % k < k = mod-lt m kp in
              let i : In (m / k * k + (m % k - 1)) (m ∷ ms) = w.1 (m % k - 1) (omega arith) (omega arith) in
              omega (arith, in_from m ms (m / k * k + (m % k - 1)) ar i)

  step_repeat : (a e m : ℕ) (s : Track A) → Inv k b a e s → suc m ≡ e → step k s (m % 4096) (b m) ≡ (s, [])
  unfolding arrive
  step_repeat a e m s inv h =
      let d : distance s.last (m % 4096) ≡ 0 = dist s.last e m inv.last_lt inv.last_is (omega arith) (omega arith) ∙ omega arith in
      rw (eq-eqb (distance s.last (m % 4096)) 0 d)

  step-moves : (a e m : ℕ) (s : Track A) → Inv k b a e s → e ≤ m → m ≤ e + 4094
      → step k s (m % 4096) (b m) ≡ left s (moves (eqb (m % k) 0) (eqb (m + 1 - e) 1 && s.running) (eqb (m % k) (k - 1)) (m % 4096) (m % k) s.gathered (b m))
  unfolding arrive
  step-moves a e m s inv l h =
      let d : distance s.last (m % 4096) ≡ m + 1 - e = dist s.last e m inv.last_lt inv.last_is (omega arith) h in
      rw (d, ne_eqb (m + 1 - e) 0 (omega arith), place-next k s.place e m inv.place_is l)

  again : (a e m : ℕ) (s : Track A) (ms : List ℕ) → suc m ≡ e → Result k b a e ms (run k s (map (piece b) ms)) → After a e m ms (s, [])
  unfolding After
  again a e m s ms h r =
      keep k b a e a e (m ∷ ms) ms (run k s (map (piece b) ms))
      (λ q. (λ w. (w.0, λ j l g. inr (w.1 j l g)), λ w. (w.0, λ j l g. in_tail m ms (q * k + j) (omega arith) (w.1 j l g)))) r

  goes_all : (a e : ℕ) (s : Track A) (m : ℕ) (ms : List ℕ) → Inv k b a e s → (suc m ≡ e) ⊎ ((e ≤ m) × (m ≤ e + 4094)) → Arrives (suc m) ms
      → Later m ms → After a e m ms (step k s (m % 4096) (b m))
  unfolding Later
  goes_all a e s m ms inv (inl h) ar later =
      rw (step_repeat a e m s inv h) (again a e m s ms h (rw h at (later a s (subst (λ (x : ℕ). Inv k b a x s) (sym h) inv))))
  goes_all a e s m ms inv (inr h) ar later =
      rw (step-moves a e m s inv h.0 h.1)
      (goes a e m ms inv.low inv.high h.0 ar later s inv (eqb (m % k) 0) (eqb (m + 1 - e) 1 && s.running) refl refl)

  claim : (ms : List ℕ) (a e : ℕ) (s : Track A) → Inv k b a e s → Arrives e ms → Result k b a e ms (run k s (map (piece b) ms))
  unfolding run After Later
  claim [] a e s inv ar =
      ([], tt, (λ q. (λ i. absurd i, λ w. w.1 (k - 1) (omega arith) (omega (arith, w.0, inv.high)))), refl)
  claim (m ∷ ms) a e s inv ar = goes_all a e s m ms inv ar.0 ar.1 (λ a' s' i. claim ms a' (suc m) s' i ar.1)

  inv_fresh : Inv k b 0 0 (fresh k)
  inv_fresh =
      record {
        last_lt = omega arith;
        last_is = refl;
        place_is = ap (λ (x : ℕ). x % k) (let r : k - 1 + 1 ≡ k = omega arith in r) ∙ mod_self k ∙ sym (zero-mod k);
        low = omega arith;
        high = omega arith;
        idle = λ h. refl;
        busy = λ g. absurd (false≢true g);
      }

-- THE THEOREM, for one stream with k pieces to the packet and the bodies b
pub reads : {A : Type 0} (k : ℕ) → 0 < k → (b : ℕ → A) (ns : List ℕ) → Arrives 0 ns → Finishes k b ns (run k (fresh k) (map (piece b) ns))
reads k kp b ns ar =
    let r = claim k kp b ns 0 0 (fresh k) (inv_fresh k kp b) ar in
    (r.0, r.1, (λ q. (λ i j l. ((r.2 q).0 i).1 j l zero-le, λ f. (r.2 q).1 (zero-le, λ j l h. f j l))), r.3)
