-- Demand 3 about calls: each call on lent bytes is one of document 01's, so what is proved of those holds of the bytes.
-- Assumes nothing.
use mathlib.Core.Path.{◌≡◌, refl, sym, ap, ◌∙◌, subst}
use mathlib.Core.Bool.{Bool, true, false, cond, ◌&&◌}
use mathlib.Core.List.{List, [], ◌∷◌, map}
use Prim.Native.Nat.{ℕ, ◌+◌, ◌%◌, ◌≤◌}
use borrow.Author.Tests.{eqb-true, le-leb}
use lib.Dec.{eqb}
use lib.ListN.{length, take, drop}
use lib.Seq.{take_at}
use Rattle.wire.specs.Wire.{be16, put}
use Rattle.paper.specs.Frames.{Frame, frame_of}
use Rattle.paper.specs.Streams.{listed}
use Rattle.paper.specs.Controller.{Controller, start}
use Rattle.paper.specs.Step.{Outcome, step}
use Rattle.paper.specs.Reader.{reader_start}
use Rattle.paper.specs.Runs.{replies, readings}
use Rattle.paper.specs.History.{is_accepted}
use Rattle.delivery.specs.Demands as delivery
use Rattle.delivery.specs.HandedOut as handing
use Rattle.polls.specs.Polls.{is_poll, polled, poll_outputs}
use Rattle.delivery.specs.Chosen.{Arrival}
use Rattle.delivery.specs.HandedOut.{of}
use Rattle.delivery.specs.Fates.{Fate}
use Rattle.paper.proofs.Kept.{Kept, kept-start, kept_step, written, writes}
use Rattle.polls.proofs.Polled.{of-polls}
use Rattle.delivery.proofs.Handing.{AtLength, handed-length}
use Rattle.delivery.proofs.Demand3.{demand3}
use Rattle.state.specs.Layout.{state_bytes}
use Rattle.state.specs.View.{view}
use Rattle.state.specs.Range.{Fit}
use Rattle.state.specs.Fresh.{started_on}
use Rattle.machine.specs.Called.{step_of, start_of}
use Rattle.machine.proofs.Fresh.{start-view, start-fit}
use Rattle.machine.specs.Runs.{Agrees, replies_of}
use Rattle.machine.proofs.Steps.{steps}
use Rattle.lent.specs.Calls.{Framed, calls, fronts}
use Rattle.shelf.specs.Layout.{reader_bytes}
use Rattle.shelf.specs.Fresh as shelf
use Rattle.shelf.specs.Runs.{readings_of}
use Rattle.shelf.proofs.Runs.{started_readings}
use Rattle.demand.specs.Demands.{packets_written, packets_handed, hands_out_on, Called, Delivered, ByArrivals, ByFates, InOrder, Independent, Demand3}

-- bytes at an output's front are there
front : (o v : List ℕ) (n : ℕ) → length v ≡ n → take n (put o 0 v) ≡ v
front o v n h = take_at v (drop (0 + length v) o) n h

-- ---- the controller's calls

polls-written : (f : Frame) → is_poll f ≡ true → written f ≡ 126
polls-written = of-polls (λ f. written f ≡ 126) (λ cc. refl)

-- one call more
one_more : (c : Controller) → Kept c → (f o : List ℕ) (rest : List (List ℕ))
    → cond (is_accepted (step c f (length o)).reply && is_poll (frame_of f)) (take 126 (put o 0 (step c f (length o)).out) ∷ rest) rest
    ≡ cond (is_accepted (step c f (length o)).reply && is_poll (frame_of f)) ((step c f (length o)).out ∷ rest) rest
one_more c k f o rest = by (is_accepted (step c f (length o)).reply) refl (is_poll (frame_of f)) refl
  where
    p : Outcome
    p = step c f (length o)

    by : (a : Bool) → is_accepted p.reply ≡ a → (b : Bool) → is_poll (frame_of f) ≡ b
        → cond (a && b) (take 126 (put o 0 p.out) ∷ rest) rest ≡ cond (a && b) (p.out ∷ rest) rest
    by true t true e =
        ap (λ (v : List ℕ). v ∷ rest)
        (front o p.out 126 (writes c f (length o) k (eqb-true p.reply 0 t) ∙ polls-written (frame_of f) e))
    by true t false e = refl
    by false t b e = refl

written_as : (xs : List (List ℕ × List ℕ)) (s : List ℕ) (c : Controller) → Fit s → view s ≡ c → Kept c → Framed xs
    → packets_written xs (replies_of s xs) ≡ poll_outputs (calls xs) (replies c (calls xs))
unfolding packets_written replies_of poll_outputs replies
written_as [] s c g v k h = refl
written_as (x ∷ xs) s c g v k h =
    let a : Agrees (step_of s x.0 x.1) (step c x.0 (length x.1)) x.1 =
    subst (λ (d : Controller). Agrees (step_of s x.0 x.1) (step d x.0 (length x.1)) x.1) v (steps s x.0 x.1 g h.0) in
    rw (
      a.reply,
      a.out,
      written_as xs (step_of s x.0 x.1).state (step c x.0 (length x.1)).next a.fits a.held
          (kept_step c x.0 (length x.1) k) h.1,
    )
    (one_more c k x.0 x.1 _)

started : (lent : List ℕ) → state_bytes ≤ length lent → (start_of lent).state ≡ started_on lent
unfolding start_of
started lent h = rw (le-leb state_bytes (length lent) h)

packets : (lent : List ℕ) → state_bytes ≤ length lent → (xs : List (List ℕ × List ℕ)) → Framed xs
    → packets_written xs (replies_of (start_of lent).state xs) ≡ map (λ p. p.bytes) (polled (calls xs))
packets lent h xs f =
    ap (λ (s : List ℕ). packets_written xs (replies_of s xs)) (started lent h)
    ∙ written_as xs (started_on lent) start (start-fit lent h) (start-view lent h) kept-start f
    ∙ sym (demand3.written_by_polls (calls xs))

-- ---- the reader's calls

reader_started : (lent : List ℕ) → reader_bytes ≤ length lent → (shelf.start_of lent).state ≡ shelf.started_on lent
unfolding shelf.start_of
reader_started lent h = rw (le-leb reader_bytes (length lent) h)

handed_as : (xs : List (List ℕ × List ℕ)) (hs : List (ℕ × List ℕ)) → AtLength (handing.handed_out (calls xs) hs)
    → packets_handed xs (fronts xs hs) ≡ handing.handed_out (calls xs) hs
unfolding packets_handed handing.handed_out
handed_as [] hs l = refl
handed_as (x ∷ xs) [] l = refl
handed_as (x ∷ xs) (h ∷ hs) l = by (eqb h.0 1) l (λ m. handed_as xs hs m)
  where
    t : ℕ
    t = be16 x.0 6 % 16

    by : (b : Bool) → AtLength (cond b ((t, h.1) ∷ handing.handed_out (calls xs) hs) (handing.handed_out (calls xs) hs))
        → (AtLength (handing.handed_out (calls xs) hs) → packets_handed xs (fronts xs hs) ≡ handing.handed_out (calls xs) hs)
        → cond b ((t, take (listed t) (put x.1 0 h.1)) ∷ packets_handed xs (fronts xs hs)) (packets_handed xs (fronts xs hs))
        ≡ cond b ((t, h.1) ∷ handing.handed_out (calls xs) hs) (handing.handed_out (calls xs) hs)
    by true m ih = λ i. (t, front x.1 h.1 (listed t) m.0 i) ∷ ih m.1 i
    by false m ih = ih m

-- what is handed out on bytes is what document 01's reader hands out
handed_is : (ys : List Arrival) (lent : List ℕ) (given : List (List ℕ × List ℕ)) → Called ys lent given
    → hands_out_on lent given ≡ handing.hands_out (calls given)
handed_is ys lent given k =
    ap (λ (b : List ℕ). packets_handed given (readings_of b given)) (reader_started lent k.long)
    ∙ ap (packets_handed given) (started_readings lent k.long given k.bytes)
    ∙ handed_as given (readings reader_start (calls given)) (handed-length (calls given))

-- ---- the demand

-- what document 01's reader does is done on bytes
delivers : (xs : List (List ℕ × List ℕ)) (ys : List Arrival) (s : ℕ) → Delivered xs ys s
delivers xs ys s c lent given k =
    ap (of s) (handed_is ys lent given k) ∙ demand3.delivers (calls xs) ys s c (calls given) k.frames

by_arrivals : (ys zs : List Arrival) (s : ℕ) → ByArrivals ys zs s
by_arrivals ys zs s e n n' lent lent' given given' k k' =
    ap (of s) (handed_is ys lent given k)
    ∙ demand3.by_arrivals ys zs s e n n' (calls given) (calls given') k.frames k'.frames
    ∙ sym (ap (of s) (handed_is zs lent' given' k'))

by_fates : (xs : List (List ℕ × List ℕ)) (ys : List Arrival) (s : ℕ) → delivery.ByFates (calls xs) ys s → ByFates xs ys s
by_fates xs ys s h quiet gaps lent given k = ap (of s) (handed_is ys lent given k) ∙ h quiet gaps (calls given) k.frames

in_order : (xs : List (List ℕ × List ℕ)) (ys : List Arrival) → delivery.InOrder (calls xs) ys → InOrder xs ys
in_order xs ys h quiet gaps lent given k = handed_is ys lent given k ∙ h quiet gaps (calls given) k.frames

independent : (xs : List (List ℕ × List ℕ)) (fates fates' : List Fate) (s : ℕ) → Independent xs fates fates' s
independent xs fates fates' s e q q' lent lent' given given' k k' =
    ap (of s) (handed_is _ lent given k)
    ∙ demand3.independent (calls xs) fates fates' s e q q' (calls given) (calls given') k.frames k'.frames
    ∙ sym (ap (of s) (handed_is _ lent' given' k'))

pub demand3_calls : Demand3
demand3_calls =
    record {
      packets = packets;
      delivers = delivers;
      by_arrivals = by_arrivals;
      by_fates = λ xs fates s. by_fates xs _ s (demand3.by_fates (calls xs) fates s);
      in_order = λ xs fates. in_order xs _ (demand3.in_order (calls xs) fates);
      always =
          λ xs fates n.
          ((λ s. by_fates xs _ s ((demand3.always (calls xs) fates n).0 s)), in_order xs _ (demand3.always (calls xs) fates n).1);
      independent = independent;
    }
