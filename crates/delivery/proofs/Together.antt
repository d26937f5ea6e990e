-- All streams together: what is handed out is what arrived whole, in the order queued. Each arrival adds to both at the end, and what
-- it adds is known by what each stream has of it.
-- Assumes nothing.
use mathlib.Core.Path.{◌≡◌, refl, sym, ap, ap₂, ◌∙◌, subst}
use mathlib.Core.Bool.{Bool, true, false, cond}
use mathlib.Core.Option.{none}
use mathlib.Core.List.{List, [], ◌∷◌, ◌++◌, append_assoc, append-nil}
use Prim.Native.Nat.{ℕ, ◌%◌, ◌≤◌}
use native.Mathlib.Omega.{arith}
use lib.Dec.{eqb}
use lib.ListN.{length, get_or, take, drop}
use borrow.Author.Tests.{eqb-true, eqb-false, eq-eqb, ne_eqb}
use Rattle.wire.specs.Wire.{be16}
use Rattle.paper.specs.Controller.{start}
use Rattle.paper.specs.Reader.{Reader, ReaderOutcome, reader_start, reader_step}
use Rattle.paper.specs.Runs.{Call, reads, readings}
use Rattle.paper.specs.History.{sent_by}
use Rattle.polls.specs.Polls.{polled}
use Rattle.delivery.specs.Chosen.{Arrival, frame, arrived, Gaps, Comes}
use Rattle.delivery.specs.HandedOut.{Given, handed_out, hands_out, of, arrived_whole}
use Rattle.delivery.specs.Fates.{Fate, arrivals, Quiet}
use Rattle.delivery.specs.Demands.{InOrder}
use Rattle.polls.proofs.Sending.{sent-whole}
use Rattle.polls.proofs.Polled.{polled_sub}
use Rattle.delivery.proofs.Way.{prefix}
use Rattle.delivery.proofs.QueueOrder.{Stands, advance, stands, none-complete}
use Rattle.delivery.proofs.Delivery.{delivers, comes-front, fates_come}

-- calls one after the other
handed-append : (xs ys : List Call) (r : Reader)
    → handed_out (xs ++ ys) (readings r (xs ++ ys)) ≡ handed_out xs (readings r xs) ++ handed_out ys (readings (reads r xs) ys)
unfolding handed_out readings reads
handed-append [] ys r = refl
handed-append (x ∷ xs) ys r =
    by (eqb (reader_step r x.bytes x.room).reply 1) (handed-append xs ys (reader_step r x.bytes x.room).next)
  where
    h : ReaderOutcome
    h = reader_step r x.bytes x.room

    one : ℕ × List ℕ
    one = (be16 x.bytes 6 % 16, h.out)

    by : (b : Bool)
        → handed_out (xs ++ ys) (readings h.next (xs ++ ys))
        ≡ handed_out xs (readings h.next xs) ++ handed_out ys (readings (reads h.next xs) ys)
        → cond b (one ∷ handed_out (xs ++ ys) (readings h.next (xs ++ ys))) (handed_out (xs ++ ys) (readings h.next (xs ++ ys)))
        ≡ cond b (one ∷ handed_out xs (readings h.next xs)) (handed_out xs (readings h.next xs))
        ++ handed_out ys (readings (reads h.next xs) ys)
    by true e = ap (λ l. one ∷ l) e
    by false e = e

of-append : (s : ℕ) (xs ys : List (ℕ × List ℕ)) → of s (xs ++ ys) ≡ of s xs ++ of s ys
unfolding of
of-append s [] ys = refl
of-append s (x ∷ xs) ys = at (eqb x.0 s) (of-append s xs ys)
  where
    at : (b : Bool) → of s (xs ++ ys) ≡ of s xs ++ of s ys
        → cond b (x.1 ∷ of s (xs ++ ys)) (of s (xs ++ ys)) ≡ cond b (x.1 ∷ of s xs) (of s xs) ++ of s ys
    at true h = ap (λ l. x.1 ∷ l) h
    at false h = h

cancel : {A : Type 0} (a b c : List A) → a ++ b ≡ a ++ c → b ≡ c
cancel [] b c e = e
cancel (x ∷ a) b c e = cancel a b c (ap (drop 1) e)

-- a list is empty that has nothing of any stream
none_of : (D : List (ℕ × List ℕ)) → ((s : ℕ) → of s D ≡ []) → D ≡ []
unfolding of
none_of [] h = refl
none_of (d ∷ D) h = absurd (omega (arith, ap length (rw (eq-eqb d.0 d.0 refl) at (h d.0))))

-- at most one is handed out by a call: it is known by what each stream has of it
one_of : (b : Bool) (h : ℕ × List ℕ) (D : List (ℕ × List ℕ)) → ((s : ℕ) → of s (cond b (h ∷ []) []) ≡ of s D) → cond b (h ∷ []) [] ≡ D
unfolding of
one_of false h D e = sym (none_of D (λ s. sym (e s)))
one_of true h [] e = absurd (omega (arith, ap length (rw (eq-eqb h.0 h.0 refl) at (e h.0))))
one_of true h (d ∷ D) e = by (eqb d.0 h.0) refl
  where
    by : (b : Bool) → eqb d.0 h.0 ≡ b → h ∷ [] ≡ d ∷ D
    by true t =
        let same : h.0 ≡ d.0 = sym (eqb-true d.0 h.0 t) in
        let heads : h.1 ∷ [] ≡ d.1 ∷ of h.0 D = rw (eq-eqb h.0 h.0 refl, t) at (e h.0) in
        λ i. (same i, ap (λ l. get_or l 0 []) heads i) ∷ sym (none_of D (λ s. rest s same (ap (drop 1) heads) (eqb h.0 s) refl (e s))) i
      where
        rest : (s : ℕ) → h.0 ≡ d.0 → [] ≡ of h.0 D → (b : Bool) → eqb h.0 s ≡ b
            → cond (eqb h.0 s) (h.1 ∷ []) [] ≡ cond (eqb d.0 s) (d.1 ∷ of s D) (of s D) → of s D ≡ []
        rest s same mine true u k = subst (λ (v : ℕ). of v D ≡ []) (eqb-true h.0 s u) (sym mine)
        rest s same mine false u k = sym (rw (u, ← same, u) at k)
    by false t =
        absurd
        (omega (arith, ap length (rw (eq-eqb d.0 d.0 refl, other) at (e d.0))))
      where
        other : eqb h.0 d.0 ≡ false
        other = ne_eqb h.0 d.0 (λ k. eqb-false d.0 h.0 t (sym k))

given_snoc : (pre : List Arrival) (xs : List Call) (y : Arrival) (x : Call) → Given pre xs → (x.bytes ≡ frame y) × (776 ≤ x.room)
    → Given (pre ++ (y ∷ [])) (xs ++ (x ∷ []))
given_snoc [] [] y x g h = (h.0, h.1, tt)
given_snoc [] (z ∷ xs) y x g h = absurd g
given_snoc (a ∷ pre) [] y x g h = absurd g
given_snoc (a ∷ pre) (z ∷ xs) y x g h = (g.0, g.1, given_snoc pre xs y x g.2 h)

module _ (calls : List Call) (fates : List Fate) (quiet : Quiet (arrivals calls fates))
    (gaps : (s : ℕ) → Gaps 0 (arrived s (arrivals calls fates))) where
  -- a beginning of the way
  begins : (pre ys : List Arrival) → arrivals calls fates ≡ pre ++ ys → (given : List Call) → Given pre given → (s : ℕ)
      → of s (hands_out given) ≡ of s (arrived_whole calls pre)
  begins pre ys e given g s =
      delivers calls pre s
      (comes-front calls pre ys s (subst (λ (l : List Arrival). Comes calls l s) e (fates_come calls fates s quiet (gaps s)))) given g

  goes_on : (ys pre : List Arrival) → arrivals calls fates ≡ pre ++ ys → Stands (sent_by start calls) pre ys → (done xs : List Call)
      → Given pre done → Given ys xs → hands_out done ≡ arrived_whole calls pre → hands_out (done ++ xs) ≡ arrived_whole calls (pre ++ ys)
  unfolding handed_out readings
  goes_on [] pre e k done [] g h same = rw (append-nil done, append-nil pre) same
  goes_on [] pre e k done (x ∷ xs) g h same = absurd h
  goes_on (y ∷ ys) pre e k done [] g h same = absurd h
  goes_on (y ∷ ys) pre e k done (x ∷ xs) g h same =
      let on = advance (sent_by start calls) (sent-whole calls) pre y ys k in
      let here : arrivals calls fates ≡ (pre ++ (y ∷ [])) ++ ys = e ∙ sym (append_assoc pre (y ∷ []) ys) in
      let more : Given (pre ++ (y ∷ [])) (done ++ (x ∷ [])) = given_snoc pre done y x g (h.0, h.1) in
      let D : List (ℕ × List ℕ) = handed_out (x ∷ []) (readings (reads reader_start done) (x ∷ [])) in
      let got : ReaderOutcome = reader_step (reads reader_start done) x.bytes x.room in
      let adds : hands_out (done ++ (x ∷ [])) ≡ hands_out done ++ D = handed-append done (x ∷ []) reader_start in
      let each : (s : ℕ) → of s D ≡ of s on.1.0 =
      λ s.
      cancel (of s (arrived_whole calls pre)) (of s D) (of s on.1.0)
      (ap (λ l. of s l ++ of s D) (sym same)
      ∙ sym (of-append s (hands_out done) D)
      ∙ ap (of s) (sym adds)
      ∙ begins (pre ++ (y ∷ [])) ys here (done ++ (x ∷ [])) more s
      ∙ ap (of s) on.1.1
      ∙ of-append s (arrived_whole calls pre) on.1.0) in
      let now : hands_out (done ++ (x ∷ [])) ≡ arrived_whole calls (pre ++ (y ∷ [])) =
      adds ∙ ap₂ ◌++◌ same (one_of (eqb got.reply 1) (be16 x.bytes 6 % 16, got.out) on.1.0 each) ∙ sym on.1.1 in
      rw (← append_assoc done (x ∷ []) xs, ← append_assoc pre (y ∷ []) ys)
      (goes_on ys (pre ++ (y ∷ [])) here on.0 (done ++ (x ∷ [])) xs more h.2 now)

pub in_order : (calls : List Call) (fates : List Fate) → InOrder calls (arrivals calls fates)
unfolding arrivals handed_out
in_order calls fates quiet gaps given g =
    goes_on calls fates quiet gaps (arrivals calls fates) [] refl (stands (sent_by start calls) (polled calls) fates (polled_sub calls)) []
    given tt g (sym (none-complete (sent_by start calls) (sent-whole calls)))

-- at every moment on the way
pub in_order-always : (calls : List Call) (fates : List Fate) (n : ℕ) → InOrder calls (take n (arrivals calls fates))
unfolding arrivals
in_order-always calls fates n =
    let r = prefix fates n (λ t. none) (polled calls) in
    subst (λ (l : List Arrival). InOrder calls l) (sym r.1) (in_order calls r.0)
