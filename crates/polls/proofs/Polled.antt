-- The controller's run beside its numbers: its counts are the numbers modulo 4096; and the packets that it polls of a stream are
-- pieces of that stream under numbers that never fall, each of which the reader finds in the bytes with the body that was queued
-- under it.
-- Assumes nothing.
use mathlib.Core.Path.{◌≡◌, refl, sym, ap, ap₂, ◌∙◌, subst}
use mathlib.Core.Logic.{◌⊎◌, inl, inr}
use mathlib.Core.Bool.{Bool, true, false, cond, ◌&&◌, false≢true}
use mathlib.Core.List.{List, [], ◌∷◌, ◌++◌, map, append_assoc, append-nil}
use Prim.Native.Nat.{ℕ, suc, ◌+◌, ◌%◌, ◌≤◌, ◌<◌}
use native.Mathlib.Omega.{arith}
use lib.Dec.{eqb, lit≤}
use lib.ListN.{length, get_or, take, drop, length-append, get_or-append}
use lib.Seq.{get_or-append_seam, append_snoc}
use borrow.Author.Tests.{eqb-true, eqb-false, eq-eqb}
use Rattle.paper.specs.Frames.{Channel, cdmu_a, cdmu_b, Frame, broadcast, command, tick, sample, poll, status, analogue, faulty, frame_of}
use Rattle.paper.specs.Commands.{clear, housekeeping, set_mode, Decoded, request, refusal, names, decoded}
use Rattle.paper.specs.Streams.{pieces}
use Rattle.paper.specs.Packets.{cut}
use Rattle.paper.specs.Queue.{Piece, piece, wrap, numbered, after, replaced, without}
use Rattle.paper.specs.Controller.{Controller, start}
use Rattle.paper.specs.Acts.{accepted, answer, poll_output_from}
use Rattle.paper.specs.Step.{holds, reply, refused, Outcome, outcome, replied, step}
use Rattle.paper.specs.Reader.{packet, packet_of}
use Rattle.paper.specs.Runs.{Call, replies}
use Rattle.paper.specs.History.{is_accepted, sent_at, sent_by, counts_after, numbered_all, Takes, nothing, the_first, named, command_takes, takes, leaves, sent, takes_at}
use Rattle.polls.specs.Polls.{Polled, Numbers, is_poll, pieces_queued, none_queued, joined_at, numbers_after, taken_at, written, polled_from, polled, poll_outputs, Numbered, polled_of}
use Rattle.paper.proofs.Refusals.{Clear, reply_is, passed}
use Rattle.paper.proofs.History.{queues-step}
use Rattle.polls.proofs.Whole.{polled_parse}
use Rattle.polls.proofs.Sizes.{Sizes, sizes-start, sizes_step}
use Rattle.polls.proofs.Sending.{Readies, Waits, waits_start, waits_step}

-- ---- counts are numbers modulo 4096

abbrev pub wire : Piece (List ℕ) → Piece (List ℕ)
wire p = piece p.stream (p.count % 4096) p.body

wrap-suc : (n : ℕ) → wrap (n % 4096) ≡ suc n % 4096
wrap-suc n = omega arith

pub map-append : {X Y : Type 0} (f : X → Y) (xs ys : List X) → map f (xs ++ ys) ≡ map f xs ++ map f ys
map-append f [] ys = refl
map-append f (x ∷ xs) ys = ap (λ l. f x ∷ l) (map-append f xs ys)

numbered_wire : (s n c : ℕ) (xs : List (List ℕ)) → c ≡ n % 4096 → numbered wrap s c xs ≡ map wire (numbered suc s n xs)
unfolding numbered
numbered_wire s n c [] h = refl
numbered_wire s n c (x ∷ xs) h =
    ap₂ (λ (m : ℕ) l. piece s m x ∷ l) h (numbered_wire s (suc n) (wrap c) xs (ap wrap h ∙ wrap-suc n))

after_wire : (n c : ℕ) (xs : List (List ℕ)) → c ≡ n % 4096 → after wrap c xs ≡ after suc n xs % 4096
unfolding after
after_wire n c [] h = h
after_wire n c (x ∷ xs) h = after_wire (suc n) (wrap c) xs (ap wrap h ∙ wrap-suc n)

put_wire : (N M : ℕ → ℕ) (s n c : ℕ) → ((t : ℕ) → M t ≡ N t % 4096) → c ≡ n % 4096 → (t : ℕ) → replaced M s c t ≡ replaced N s n t % 4096
unfolding replaced
put_wire N M s n c h g t = at (eqb s t)
  where
    at : (b : Bool) → cond b c (M t) ≡ cond b n (N t) % 4096
    at true = g
    at false = h t

all_wire : (ps : List (ℕ × List ℕ)) (N M : ℕ → ℕ) → ((t : ℕ) → M t ≡ N t % 4096)
    → (numbered_all wrap M ps ≡ map wire (numbered_all suc N ps)) × ((t : ℕ) → counts_after wrap M ps t ≡ counts_after suc N ps t % 4096)
unfolding numbered_all counts_after
all_wire [] N M h = (refl, h)
all_wire (p ∷ ps) N M h =
    let s : ℕ = p.0 in
    let xs : List (List ℕ) = cut (pieces s) p.1 in
    let rest =
    all_wire ps (replaced N s (after suc (N s) xs)) (replaced M s (after wrap (M s) xs))
    (put_wire N M s (after suc (N s) xs) (after wrap (M s) xs) h (after_wire (N s) (M s) xs (h s))) in (
      ap₂ ◌++◌ (numbered_wire s (N s) (M s) xs (h s)) rest.0 ∙ sym (map-append wire (numbered suc s (N s) xs) _),
      rest.1,
    )

without_wire : (f : ℕ → Bool) (ps : List (Piece (List ℕ))) → without f (map wire ps) ≡ map wire (without f ps)
unfolding without
without_wire f [] = refl
without_wire f (p ∷ ps) = at (f p.stream) (without_wire f ps)
  where
    at : (b : Bool) → without f (map wire ps) ≡ map wire (without f ps)
        → cond b (without f (map wire ps)) (wire p ∷ without f (map wire ps)) ≡ map wire (cond b (without f ps) (p ∷ without f ps))
    at true h = h
    at false h = ap (λ l. wire p ∷ l) h

leaves_wire : (t : Takes) (q : List (Piece (List ℕ))) → leaves t (map wire q) ≡ map wire (leaves t q)
leaves_wire nothing q = refl
leaves_wire the_first [] = refl
leaves_wire the_first (p ∷ q) = refl
leaves_wire (named mask) q = without_wire (names mask) q

-- a controller, and the numbers beside it
pub record Beside (c : Controller) (w : Numbers) : Type 0 where
  pub queue : c.streams.queue ≡ map wire w.waiting
  pub counts : (t : ℕ) → c.streams.counts t ≡ w.queued t % 4096

pub beside_step : (c : Controller) (w : Numbers) (x : Call) → Beside c w → Beside (step c x.bytes x.room).next (numbers_after c w x)
unfolding numbers_after
beside_step c w x k =
    let all = all_wire (sent_at c x) w.queued c.streams.counts k.counts in
    record {
      queue =
          (queues-step c x).queue
          ∙ ap (leaves (takes_at c x)) (ap₂ ◌++◌ k.queue all.0 ∙ sym (map-append wire w.waiting _))
          ∙ leaves_wire (takes_at c x) (joined_at c w x);
      counts = λ t. ap (λ g. g t) (queues-step c x).counts ∙ all.1 t;
    }

-- ---- of one stream: rising numbers, each with the body that was queued under it

-- those of stream s
unfoldable pub only : {X : Type 0} → (X → ℕ) → ℕ → List X → List X
only key s [] = []
only key s (x ∷ xs) = cond (eqb (key x) s) (x ∷ only key s xs) (only key s xs)

only_append : {X : Type 0} (key : X → ℕ) (s : ℕ) (xs ys : List X) → only key s (xs ++ ys) ≡ only key s xs ++ only key s ys
unfolding only
only_append key s [] ys = refl
only_append key s (x ∷ xs) ys = at (eqb (key x) s) (only_append key s xs ys)
  where
    at : (b : Bool) → only key s (xs ++ ys) ≡ only key s xs ++ only key s ys
        → cond b (x ∷ only key s (xs ++ ys)) (only key s (xs ++ ys)) ≡ cond b (x ∷ only key s xs) (only key s xs) ++ only key s ys
    at true h = ap (λ l. x ∷ l) h
    at false h = h

abbrev pub pieces_in : ℕ → List (Piece (List ℕ)) → List (Piece (List ℕ))
pieces_in s q = only (λ p. p.stream) s q

bodies_append : (s : ℕ) (ps qs : List (ℕ × List ℕ)) → pieces_queued s (ps ++ qs) ≡ pieces_queued s ps ++ pieces_queued s qs
unfolding pieces_queued
bodies_append s [] qs = refl
bodies_append s (p ∷ ps) qs = at (eqb p.0 s) (bodies_append s ps qs)
  where
    x : List (List ℕ)
    x = cut (pieces s) p.1

    at : (b : Bool) → pieces_queued s (ps ++ qs) ≡ pieces_queued s ps ++ pieces_queued s qs
        → cond b (x ++ pieces_queued s (ps ++ qs)) (pieces_queued s (ps ++ qs)) ≡ cond b (x ++ pieces_queued s ps) (pieces_queued s ps) ++ pieces_queued s qs
    at true h = ap (λ l. x ++ l) h ∙ sym (append_assoc x (pieces_queued s ps) (pieces_queued s qs))
    at false h = h

-- pieces from number lo on, rising, each the one that H has under its number
abbrev Rising : List (List ℕ) → ℕ → List (Piece (List ℕ)) → Type 0
Rising H lo [] = Unit {0}
Rising H lo (p ∷ q) = (lo ≤ p.count) × (p.count < length H) × (get_or H p.count [] ≡ p.body) × Rising H (suc p.count) q

rising_lower : (H : List (List ℕ)) (lo lo' : ℕ) (q : List (Piece (List ℕ))) → lo ≤ lo' → Rising H lo' q → Rising H lo q
rising_lower H lo lo' [] h f = tt
rising_lower H lo lo' (p ∷ q) h f = (omega (arith, f.0), f.1, f.2, f.3)

rising_plain : (s : ℕ) (xs H : List (List ℕ)) (n lo : ℕ) → n ≡ length H → lo ≤ n → Rising (H ++ xs) lo (numbered suc s n xs)
unfolding numbered
rising_plain s [] H n lo h l = tt
rising_plain s (x ∷ xs) H n lo h l = (
  l,
  omega (arith, length-append H (x ∷ xs)),
  rw h (get_or-append_seam H x xs []),
  rw (append_snoc H x xs) at
      (rising_plain s xs (H ++ (x ∷ [])) (suc n) (suc n) (omega (arith, length-append H (x ∷ []))) (omega arith)),
)

rising_join : (s : ℕ) (xs H : List (List ℕ)) (n lo : ℕ) (q : List (Piece (List ℕ))) → n ≡ length H → lo ≤ n → Rising H lo q
    → Rising (H ++ xs) lo (q ++ numbered suc s n xs)
rising_join s xs H n lo [] h g f = rising_plain s xs H n lo h g
rising_join s xs H n lo (p ∷ q) h g f = (
  f.0,
  omega (arith, f.1, length-append H xs),
  get_or-append H xs [] p.count f.1 ∙ f.2,
  rising_join s xs H n (suc p.count) q h (omega (arith, f.1)) f.3,
)

pub after-suc : (n : ℕ) (xs : List (List ℕ)) → after suc n xs ≡ n + length xs
unfolding after
after-suc n [] = omega arith
after-suc n (x ∷ xs) = after-suc (suc n) xs ∙ omega arith

only_numbered : (s t n : ℕ) (xs : List (List ℕ)) → eqb t s ≡ true → pieces_in s (numbered suc t n xs) ≡ numbered suc t n xs
unfolding only numbered
only_numbered s t n [] h = refl
only_numbered s t n (x ∷ xs) h = rw h (ap (λ l. piece t n x ∷ l) (only_numbered s t (suc n) xs h))

only_numbered_other : (s t n : ℕ) (xs : List (List ℕ)) → eqb t s ≡ false → pieces_in s (numbered suc t n xs) ≡ []
unfolding only numbered
only_numbered_other s t n [] h = refl
only_numbered_other s t n (x ∷ xs) h = rw h (only_numbered_other s t (suc n) xs h)

rising_without : (s : ℕ) (f : ℕ → Bool) (H : List (List ℕ)) (lo : ℕ) (q : List (Piece (List ℕ))) → Rising H lo (pieces_in s q)
    → Rising H lo (pieces_in s (without f q))
unfolding without only
rising_without s f H lo [] h = tt
rising_without s f H lo (p ∷ q) h = at (f p.stream) (λ lo' g. rising_without s f H lo' q g)
  where
    Down : Type 0
    Down = (lo' : ℕ) → Rising H lo' (pieces_in s q) → Rising H lo' (pieces_in s (without f q))

    skip : (c : Bool) → Down → Rising H lo (cond c (p ∷ pieces_in s q) (pieces_in s q)) → Rising H lo (pieces_in s (without f q))
    skip true ih g = rising_lower H lo (suc p.count) (pieces_in s (without f q)) (omega (arith, g.0)) (ih (suc p.count) g.3)
    skip false ih g = ih lo g

    stay : (c : Bool) → Down → Rising H lo (cond c (p ∷ pieces_in s q) (pieces_in s q))
        → Rising H lo (cond c (p ∷ pieces_in s (without f q)) (pieces_in s (without f q)))
    stay true ih g = (g.0, g.1, g.2, ih (suc p.count) g.3)
    stay false ih g = ih lo g

    at : (b : Bool) → Down → Rising H lo (pieces_in s (cond b (without f q) (p ∷ without f q)))
    at true ih = skip (eqb p.stream s) ih h
    at false ih = stay (eqb p.stream s) ih h

-- packets queued behind q, from the numbers N on
rising_all : (s : ℕ) (ps : List (ℕ × List ℕ)) (N : ℕ → ℕ) (H : List (List ℕ)) (lo : ℕ) (q : List (Piece (List ℕ))) → N s ≡ length H
    → lo ≤ length H → Rising H lo (pieces_in s q)
    → Rising (H ++ pieces_queued s ps) lo (pieces_in s (q ++ numbered_all suc N ps))
    × (counts_after suc N ps s ≡ length (H ++ pieces_queued s ps))
unfolding numbered_all counts_after pieces_queued replaced
rising_all s [] N H lo q n l f = (rw (append-nil H, append-nil q) f, rw (append-nil H) n)
rising_all s (p ∷ ps) N H lo q n l f = at (eqb p.0 s) refl (λ G r m g k. rising_all s ps M G lo r m g k)
  where
    M : ℕ → ℕ
    M = replaced N p.0 (after suc (N p.0) (cut (pieces p.0) p.1))

    front : List (Piece (List ℕ))
    front = numbered suc p.0 (N p.0) (cut (pieces p.0) p.1)

    at : (b : Bool) → eqb p.0 s ≡ b
        → ((G : List (List ℕ)) (r : List (Piece (List ℕ))) → M s ≡ length G → lo ≤ length G → Rising G lo (pieces_in s r)
        → Rising (G ++ pieces_queued s ps) lo (pieces_in s (r ++ numbered_all suc M ps)) × (counts_after suc M ps s ≡ length (G ++ pieces_queued s ps)))
        → Rising (H ++ cond b (cut (pieces s) p.1 ++ pieces_queued s ps) (pieces_queued s ps)) lo
        (pieces_in s (q ++ (front ++ numbered_all suc M ps)))
        × (counts_after suc M ps s ≡ length (H ++ cond b (cut (pieces s) p.1 ++ pieces_queued s ps) (pieces_queued s ps)))
    at true e ih =
        let same : p.0 ≡ s = eqb-true p.0 s e in
        let nt : N p.0 ≡ length H = ap N same ∙ n in
        let xs : List (List ℕ) = cut (pieces p.0) p.1 in
        let ys : List (List ℕ) = cut (pieces s) p.1 in
        let xy : xs ≡ ys = ap (λ (u : ℕ). cut (pieces u) p.1) same in
        let goes : M s ≡ length (H ++ xs) =
        rw e (after-suc (N p.0) xs ∙ ap (λ (m : ℕ). m + length xs) nt ∙ sym (length-append H xs)) in
        let more =
        ih (H ++ xs) (q ++ front) goes (omega (arith, length-append H xs))
        (rw (only_append (λ (r : Piece (List ℕ)). r.stream) s q front, only_numbered s p.0 (N p.0) xs e)
        (rising_join p.0 xs H (N p.0) lo (pieces_in s q) nt (omega arith) f)) in
        rw (← xy, ← append_assoc H xs (pieces_queued s ps), ← append_assoc q front (numbered_all suc M ps)) more
    at false e ih =
        let more =
        ih H (q ++ front) (rw e n) l
        (rw (only_append (λ (r : Piece (List ℕ)). r.stream) s q front, only_numbered_other s p.0 (N p.0) (cut (pieces p.0) p.1) e, append-nil (pieces_in s q)) f) in
        rw (← append_assoc q front (numbered_all suc M ps)) more

-- ---- of all streams: some of the pieces, in their order, each perhaps several times in a row

abbrev pub Sub : List Polled → List (Piece (List ℕ)) → Type 0
Sub [] q = Unit {0}
Sub (p ∷ ps) [] = ⊥
Sub (p ∷ ps) (z ∷ q) = ((z.stream ≡ p.stream) × (z.count ≡ p.number) × Sub ps (z ∷ q)) ⊎ Sub (p ∷ ps) q

pub sub_skip : (z : Piece (List ℕ)) (ps : List Polled) (q : List (Piece (List ℕ))) → Sub ps q → Sub ps (z ∷ q)
sub_skip z [] q h = tt
sub_skip z (p ∷ ps) q h = inr h

sub_keep : (z : Piece (List ℕ)) (ps : List Polled) (q r : List (Piece (List ℕ))) → ((ps' : List Polled) → Sub ps' q → Sub ps' r)
    → Sub ps (z ∷ q) → Sub ps (z ∷ r)
sub_keep z [] q r f h = tt
sub_keep z (p ∷ ps) q r f (inl h) = inl (h.0, h.1, sub_keep z ps q r f h.2)
sub_keep z (p ∷ ps) q r f (inr h) = inr (f (p ∷ ps) h)

sub_without : (f : ℕ → Bool) (q T : List (Piece (List ℕ))) (ps : List Polled) → Sub ps (without f q ++ T) → Sub ps (q ++ T)
unfolding without
sub_without f [] T ps h = h
sub_without f (z ∷ q) T ps h = at (f z.stream) (λ ps' k. sub_without f q T ps' k) h
  where
    at : (b : Bool) → ((ps' : List Polled) → Sub ps' (without f q ++ T) → Sub ps' (q ++ T))
        → Sub ps (cond b (without f q) (z ∷ without f q) ++ T) → Sub ps (z ∷ (q ++ T))
    at true ih k = sub_skip z ps (q ++ T) (ih ps k)
    at false ih k = sub_keep z ps (without f q ++ T) (q ++ T) ih k

-- ---- one call

-- What a call does to the pieces that wait: it takes none, and those that it spares still rise and stand in their order; or it takes
-- the first, and the reader finds it in the bytes that are written.
abbrev Effect : ℕ → (waiting taken spared : List (Piece (List ℕ))) → List ℕ → Type 0
Effect s waiting taken spared out =
    ((taken ≡ []) × ((H : List (List ℕ)) (lo : ℕ) → Rising H lo (pieces_in s waiting) → Rising H lo (pieces_in s spared))
    × ((T : List (Piece (List ℕ))) (ps : List Polled) → Sub ps (spared ++ T) → Sub ps (waiting ++ T)))
    ⊎ ((p : Piece (List ℕ)) × (q : List (Piece (List ℕ))) × (waiting ≡ p ∷ q) × (taken ≡ p ∷ []) × (spared ≡ q)
    × (packet_of out ≡ packet p.stream (p.count % 4096) p.body))

module _ (s : ℕ) (c : Controller) (w : Numbers) (k : Beside c w) (g : Readies c.streams.queue) where
  polls : (cc : Channel) (q : List (Piece (List ℕ))) → Readies (map wire q)
      → Effect s q (take 1 q) (drop 1 q) (poll_output_from c cc (map wire q))
  unfolding poll_output_from
  polls cc [] h = inl (refl, (λ H lo f. f), λ T ps u. u)
  polls cc (p ∷ q) h =
      inr (p, q, refl, refl, refl, polled_parse cc c.tallies.telemetry (wire p) h.0)

  -- where no piece joins those that wait
  first : (cc : Channel) → Effect s (w.waiting ++ []) (take 1 (w.waiting ++ [])) (drop 1 (w.waiting ++ [])) (poll_output_from c cc c.streams.queue)
  first cc =
      let q : List (Piece (List ℕ)) = w.waiting ++ [] in
      let e : c.streams.queue ≡ map wire q = k.queue ∙ ap (map wire) (sym (append-nil w.waiting)) in
      subst (λ (r : List (Piece (List ℕ))). Effect s q (take 1 q) (drop 1 q) (poll_output_from c cc r)) (sym e) (polls cc q (subst Readies e g))

  keeps : (q : List (Piece (List ℕ))) (out : List ℕ) → Effect s q [] q out
  keeps q out = inl (refl, (λ H lo f. f), λ T ps u. u)

  orders : (d : Decoded) (q : List (Piece (List ℕ))) (out : List ℕ) → Effect s q [] (leaves (command_takes d) q) out
  orders (request (clear mask)) q out =
      inl (refl, (λ H lo f. rising_without s (names mask) H lo q f), λ T ps u. sub_without (names mask) q T ps u)
  orders (request housekeeping) q out = keeps q out
  orders (request (set_mode value)) q out = keeps q out
  orders (refusal n) q out = keeps q out

  -- the pieces that wait once those that frame f sends have joined them
  abbrev joined : Frame → List (Piece (List ℕ))
  joined f = w.waiting ++ numbered_all suc w.queued (sent c f)

  acts : (f : Frame) → Effect s (joined f) (cond (is_poll f) (take 1 (joined f)) []) (leaves (takes f) (joined f)) (answer c f)
  unfolding answer sent numbered_all
  acts (broadcast cc time altitude spin phase) = keeps _ []
  acts (command cc id sequence parameters) = orders (decoded id parameters) _ []
  acts (tick r) = keeps _ []
  acts (sample t x) = keeps _ []
  acts (poll cdmu_a) = first cdmu_a
  acts (poll cdmu_b) = first cdmu_b
  acts (status cc low flags) = keeps _ _
  acts (analogue bytes) = keeps _ []
  acts faulty = keeps _ []

  calls : (x : Call)
      → Effect s (joined_at c w x) (taken_at c x (joined_at c w x)) (leaves (takes_at c x) (joined_at c w x)) (step c x.bytes x.room).out
  unfolding step replied taken_at takes_at sent_at
  calls x = by (reply (holds c) f x.room) (eqb (reply (holds c) f x.room) 0) refl
    where
      f : Frame
      f = frame_of x.bytes

      o : Bool → ℕ → Outcome
      o b n = cond b (outcome 0 (answer c f) (accepted c f)) (outcome n [] (refused n f c))

      -- with the pieces of a call that is accepted, or not
      q : Bool → List (Piece (List ℕ))
      q a = w.waiting ++ numbered_all suc w.queued (cond a (sent c f) [])

      by : (n : ℕ) (b : Bool) → eqb n 0 ≡ b
          → Effect s (q (is_accepted (o b n).reply)) (cond (is_accepted (o b n).reply && is_poll f) (take 1 (q (is_accepted (o b n).reply))) [])
          (leaves (cond (is_accepted (o b n).reply) (takes f) nothing) (q (is_accepted (o b n).reply))) (o b n).out
      by n true e = acts f
      by n false e = rw e (keeps (q false) [])

-- ---- a run

-- Polled packets of stream s from number lo on, none below the one before; the reader finds in each the body that H has under its
-- number. (A poll takes what it shows, so no number comes twice; but nothing here needs that.)
abbrev pub Fine : ℕ → List (List ℕ) → ℕ → List Polled → Type 0
Fine s H lo [] = Unit {0}
Fine s H lo (p ∷ ps) =
    (lo ≤ p.number) × (p.number < length H) × (packet_of p.bytes ≡ packet s (p.number % 4096) (get_or H p.number []))
    × Fine s H p.number ps

fine_lower : (s : ℕ) (H : List (List ℕ)) (lo lo' : ℕ) (ps : List Polled) → lo ≤ lo' → Fine s H lo' ps → Fine s H lo ps
fine_lower s H lo lo' [] h f = tt
fine_lower s H lo lo' (p ∷ ps) h f = (omega (arith, f.0), f.1, f.2, f.3)

-- the reader finds in a polled packet one of its stream
abbrev pub Genuine : Polled → Type 0
Genuine p = (count : ℕ) × (x : List ℕ) × (packet_of p.bytes ≡ packet p.stream count x)

abbrev pub Genuines : List Polled → Type 0
Genuines [] = Unit {0}
Genuines (p ∷ ps) = Genuine p × Genuines ps

-- what a call's polled packet adds, before those of later calls
adds : (s : ℕ) (H G : List (List ℕ)) (lo : ℕ) (waiting taken spared : List (Piece (List ℕ))) (out : List ℕ) (rest : List Polled)
    → Effect s waiting taken spared out → lo ≤ length H → Rising H lo (pieces_in s waiting)
    → ((lo' : ℕ) → lo' ≤ length H → Rising H lo' (pieces_in s spared)
    → Fine s (H ++ G) lo' (polled_of s rest) × Genuines rest)
    → Fine s (H ++ G) lo (polled_of s (map (written out) taken ++ rest)) × Genuines (map (written out) taken ++ rest)
unfolding only polled_of
adds s H G lo waiting taken spared out rest (inl e) l f later = rw e.0 (later lo l (e.1 H lo f))
adds s H G lo waiting taken spared out rest (inr e) l f later =
    rw e.3 (at (eqb p.stream s) refl (subst (λ (v : List (Piece (List ℕ))). Rising H lo (pieces_in s v)) e.2 f))
  where
    p : Piece (List ℕ)
    p = e.0

    q : List (Piece (List ℕ))
    q = e.1

    at : (b : Bool) → eqb p.stream s ≡ b → Rising H lo (cond b (p ∷ pieces_in s q) (pieces_in s q))
        → Fine s (H ++ G) lo (cond b (written out p ∷ polled_of s rest) (polled_of s rest)) × (Genuine (written out p) × Genuines rest)
    at true t r =
        let more = later (suc p.count) r.1 (subst (λ (v : List (Piece (List ℕ))). Rising H (suc p.count) (pieces_in s v)) (sym e.4) r.3) in (
          (
            r.0,
            omega (arith, r.1, length-append H G),
            e.5 ∙ ap₂ (λ (u : ℕ) (x : List ℕ). packet u (p.count % 4096) x) (eqb-true p.stream s t)
                (sym (get_or-append H G [] p.count r.1 ∙ r.2)),
            fine_lower s (H ++ G) p.count (suc p.count) (polled_of s rest) (omega arith) more.0,
          ),
          ((p.count % 4096, p.body, e.5), more.1),
        )
    at false t r = let more = later lo l (subst (λ (v : List (Piece (List ℕ))). Rising H lo (pieces_in s v)) (sym e.4) r) in (more.0, ((p.count % 4096, p.body, e.5), more.1))

polls_fine : (s : ℕ) (xs : List Call) (c : Controller) (w : Numbers) (H : List (List ℕ)) (lo : ℕ) → Beside c w → Sizes c → Waits c
    → w.queued s ≡ length H → lo ≤ length H → Rising H lo (pieces_in s w.waiting)
    → Fine s (H ++ pieces_queued s (sent_by c xs)) lo (polled_of s (polled_from c w xs)) × Genuines (polled_from c w xs)
unfolding polled_from sent_by only polled_of numbers_after
polls_fine s [] c w H lo k z g n l f = (tt, tt)
polls_fine s (x ∷ xs) c w H lo k z g n l f =
    let now : List (ℕ × List ℕ) = sent_at c x in
    let next : Controller = (step c x.bytes x.room).next in
    let G : List (List ℕ) = pieces_queued s now in
    let all = rising_all s now w.queued H lo w.waiting n l f in
    rw (bodies_append s now (sent_by next xs), ← append_assoc H G (pieces_queued s (sent_by next xs)))
    (adds s (H ++ G) (pieces_queued s (sent_by next xs)) lo (joined_at c w x) (taken_at c x (joined_at c w x))
    (leaves (takes_at c x) (joined_at c w x)) (step c x.bytes x.room).out (polled_from next (numbers_after c w x) xs)
    (calls s c w k g.ready x) (omega (arith, length-append H G)) all.0
    (λ lo' l' f'.
    polls_fine s xs next (numbers_after c w x) (H ++ G) lo' (beside_step c w x k) (sizes_step c x z) (waits_step c x z g) all.1 l' f'))

beside_start : Beside start none_queued
unfolding start
beside_start = record { queue = refl; counts = λ t. refl }

-- THE POLLED PACKETS of a stream, from a fresh start
pub polled_fine : (calls : List Call) (s : ℕ)
    → Fine s (pieces_queued s (sent_by start calls)) 0 (polled_of s (polled calls)) × Genuines (polled calls)
unfolding polled only polled_of
polled_fine calls s = polls_fine s calls start none_queued [] 0 beside_start sizes-start waits_start refl (lit≤ tt) tt

-- ---- that they are the controller's packets

-- each is the piece of its number: what holds of each stream's packets holds of all
module _ (sent : List (ℕ × List ℕ)) where
  numbered-all : (ps : List Polled) → ((s : ℕ) → (lo : ℕ) × Fine s (pieces_queued s sent) lo (polled_of s ps)) → Numbered sent ps
  unfolding polled_of
  numbered-all [] f = tt
  numbered-all (p ∷ ps) f = (here (f p.stream).0 (f p.stream).1, numbered-all ps (λ s. rest s (eqb p.stream s) (f s).0 (f s).1))
    where
      here : (lo : ℕ) → Fine p.stream (pieces_queued p.stream sent) lo
          (cond (eqb p.stream p.stream) (p ∷ polled_of p.stream ps) (polled_of p.stream ps))
          → packet_of p.bytes ≡ packet p.stream (p.number % 4096) (get_or (pieces_queued p.stream sent) p.number [])
      here lo h = (rw (eq-eqb p.stream p.stream refl) at h).2

      rest : (s : ℕ) (b : Bool) (lo : ℕ) → Fine s (pieces_queued s sent) lo (cond b (p ∷ polled_of s ps) (polled_of s ps))
          → (lo' : ℕ) × Fine s (pieces_queued s sent) lo' (polled_of s ps)
      rest s true lo h = (p.number, h.3)
      rest s false lo h = (lo, h)

pub polled-numbered : (calls : List Call) → Numbered (sent_by start calls) (polled calls)
polled-numbered calls = numbered-all (sent_by start calls) (polled calls) (λ s. (0, (polled_fine calls s).0))

-- what holds of each poll holds of a frame that is one
pub of-polls : (P : Frame → Type 0) → ((cc : Channel) → P (poll cc)) → (f : Frame) → is_poll f ≡ true → P f
of-polls P h (broadcast cc time altitude spin phase) e = absurd (false≢true e)
of-polls P h (command cc id sequence parameters) e = absurd (false≢true e)
of-polls P h (tick r) e = absurd (false≢true e)
of-polls P h (sample s x) e = absurd (false≢true e)
of-polls P h (poll cc) e = h cc
of-polls P h (status cc low flags) e = absurd (false≢true e)
of-polls P h (analogue bytes) e = absurd (false≢true e)
of-polls P h faulty e = absurd (false≢true e)

-- an accepted poll finds a piece, so its bytes are among them
some_first : (q r : List (Piece (List ℕ))) (out : List ℕ) → eqb (length (map wire q)) 0 ≡ false
    → map (λ p. p.bytes) (map (written out) (take 1 (q ++ r))) ≡ out ∷ []
some_first [] r out h = absurd (eqb-false 0 0 h refl)
some_first (p ∷ q) r out h = refl

first_waits : (c : Controller) (w : Numbers) → Beside c w → (f : Frame) → Clear c f 9 → (r : List (Piece (List ℕ))) (out : List ℕ)
    → map (λ p. p.bytes) (map (written out) (cond (is_poll f) (take 1 (w.waiting ++ r)) [])) ≡ cond (is_poll f) (out ∷ []) []
first_waits c w k f h r out = by (is_poll f) refl
  where
    some : is_poll f ≡ true → eqb (length c.streams.queue) 0 ≡ false
    some e = of-polls (λ g. Clear c g 9 → eqb (length c.streams.queue) 0 ≡ false) (λ cc z. z) f e h

    by : (b : Bool) → is_poll f ≡ b
        → map (λ p. p.bytes) (map (written out) (cond b (take 1 (w.waiting ++ r)) [])) ≡ cond b (out ∷ []) []
    by true e = some_first w.waiting r out (ap (λ (q : List (Piece (List ℕ))). eqb (length q) 0) (sym k.queue) ∙ some e)
    by false e = refl

one_output : (c : Controller) (w : Numbers) → Beside c w → (x : Call) (rest : List (List ℕ)) (more : List Polled)
    → map (λ p. p.bytes) more ≡ rest
    → map (λ p. p.bytes) (map (written (step c x.bytes x.room).out) (taken_at c x (joined_at c w x)) ++ more)
    ≡ cond (is_accepted (step c x.bytes x.room).reply && is_poll (frame_of x.bytes)) ((step c x.bytes x.room).out ∷ rest) rest
unfolding taken_at
one_output c w k x rest more e = by (is_accepted (step c x.bytes x.room).reply) refl
  where
    out : List ℕ
    out = (step c x.bytes x.room).out

    f : Frame
    f = frame_of x.bytes

    q : List (Piece (List ℕ))
    q = joined_at c w x

    waits : is_accepted (step c x.bytes x.room).reply ≡ true → Clear c f 9
    waits t = (passed c f x.room (sym (reply_is c x.bytes x.room) ∙ eqb-true _ 0 t)).waits

    onto : (b : Bool) → cond b (out ∷ []) [] ++ rest ≡ cond b (out ∷ rest) rest
    onto true = refl
    onto false = refl

    by : (b : Bool) → is_accepted (step c x.bytes x.room).reply ≡ b
        → map (λ p. p.bytes) (map (written out) (cond (b && is_poll f) (take 1 q) []) ++ more) ≡ cond (b && is_poll f) (out ∷ rest) rest
    by true t =
        map-append (λ (p : Polled). p.bytes) (map (written out) (cond (is_poll f) (take 1 q) [])) more
        ∙ ap₂ ◌++◌ (first_waits c w k f (waits t) (numbered_all suc w.queued (sent_at c x)) out) e
        ∙ onto (is_poll f)
    by false t = e

outputs : (xs : List Call) (c : Controller) (w : Numbers) → Beside c w
    → map (λ p. p.bytes) (polled_from c w xs) ≡ poll_outputs xs (replies c xs)
unfolding polled_from replies poll_outputs
outputs [] c w k = refl
outputs (x ∷ xs) c w k =
    one_output c w k x _ (polled_from (step c x.bytes x.room).next (numbers_after c w x) xs)
    (outputs xs (step c x.bytes x.room).next (numbers_after c w x) (beside_step c w x k))

pub polled_outputs : (calls : List Call) → map (λ p. p.bytes) (polled calls) ≡ poll_outputs calls (replies start calls)
unfolding polled
polled_outputs calls = outputs calls start none_queued beside_start

-- ---- of all streams together

numbered-append : (ps qs : List (ℕ × List ℕ)) (N : ℕ → ℕ)
    → numbered_all suc N (ps ++ qs) ≡ numbered_all suc N ps ++ numbered_all suc (counts_after suc N ps) qs
unfolding numbered_all counts_after
numbered-append [] qs N = refl
numbered-append (p ∷ ps) qs N =
    ap (λ l. numbered suc p.0 (N p.0) (cut (pieces p.0) p.1) ++ l) (numbered-append ps qs _)
    ∙ sym (append_assoc (numbered suc p.0 (N p.0) (cut (pieces p.0) p.1)) _ _)

sub_adds : (waiting taken spared T : List (Piece (List ℕ))) (out : List ℕ) (rest : List Polled) → Effect 0 waiting taken spared out
    → Sub rest (spared ++ T) → Sub (map (written out) taken ++ rest) (waiting ++ T)
sub_adds waiting taken spared T out rest (inl e) h = rw e.0 (e.2 T rest h)
sub_adds waiting taken spared T out rest (inr e) h =
    rw (e.3, e.2)
    (inl (refl, refl, sub_skip e.0 rest (e.1 ++ T) (subst (λ (q : List (Piece (List ℕ))). Sub rest (q ++ T)) e.4 h)))

polls_sub : (xs : List Call) (c : Controller) (w : Numbers) → Beside c w → Sizes c → Waits c
    → Sub (polled_from c w xs) (w.waiting ++ numbered_all suc w.queued (sent_by c xs))
unfolding polled_from sent_by numbers_after
polls_sub [] c w k z g = tt
polls_sub (x ∷ xs) c w k z g =
    let now : List (ℕ × List ℕ) = sent_at c x in
    let next : Controller = (step c x.bytes x.room).next in
    let later : List (Piece (List ℕ)) = numbered_all suc (counts_after suc w.queued now) (sent_by next xs) in
    rw (numbered-append now (sent_by next xs) w.queued, ← append_assoc w.waiting (numbered_all suc w.queued now) later)
    (sub_adds (joined_at c w x) (taken_at c x (joined_at c w x)) (leaves (takes_at c x) (joined_at c w x)) later
    (step c x.bytes x.room).out (polled_from next (numbers_after c w x) xs) (calls 0 c w k g.ready x)
    (polls_sub xs next (numbers_after c w x) (beside_step c w x k) (sizes_step c x z) (waits_step c x z g)))

-- the packets polled are some of the pieces ever queued, in the order queued
pub polled_sub : (calls : List Call) → Sub (polled calls) (numbered_all suc (λ s. 0) (sent_by start calls))
unfolding polled
polled_sub calls = polls_sub calls start none_queued beside_start sizes-start waits_start
