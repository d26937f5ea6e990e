-- What holds of every controller that a run from a fresh start leaves: every waiting piece has 118 bytes, and a collection runs
-- only in mode 4. From it, what accepted calls write.
-- Assumes nothing.
use mathlib.Core.Path.{◌≡◌, refl, sym, ap, ◌∙◌}
use mathlib.Core.Bool.{Bool, true, false, cond}
use mathlib.Core.List.{List, [], ◌∷◌}
use Prim.Native.Nat.{ℕ, zero, suc, ◌-◌, ◌*◌, ◌%◌, ◌≤◌}
use native.Mathlib.Omega.{arith}
use borrow.Author.Tests.{eqb-false}
use lib.Dec.{eqb, leb}
use lib.ListN.{length, drop, replicate, length-append, length-drop, length-replicate}
use lib.Seq.{length-take-le}
use Rattle.paper.specs.Frames.{Channel, Frame, broadcast, command, tick, sample, poll, status, analogue, faulty, frame_of}
use Rattle.paper.specs.Clock.{seconds, seconds_of}
use Rattle.paper.specs.Mode as modes
use Rattle.paper.specs.Mode.{Mode, emc, upper, mid, lower, proximity, surface, diagnostic, number, mode_of, same, Standing, Seen, ruled, next}
use Rattle.paper.specs.Impact.{Impact, collects}
use Rattle.paper.specs.Commands.{Request, clear, housekeeping, set_mode, Decoded, request, refusal, names, decoded}
use Rattle.paper.specs.Streams.{acc_i, hk, pieces}
use Rattle.paper.specs.Packets.{fill, filled, chunks, cut}
use Rattle.paper.specs.Queue.{Piece, wrap, numbered}
use Rattle.paper.specs.Controller.{Open, Controller, start, queued, with_impact, stamp_now}
use Rattle.paper.specs.Acts.{emptied, enter, heard, moved, m_raised, in_proximity, completes, with_reading, watching, ended, impact_packet, completed, ticks, joined_by, closes, closed, kept_open, sampled, noted, cleared, commanded, obeyed, poll_output, poll_answered, performed, poll_answered_from, poll_output_from, accepted, answer}
use Rattle.paper.specs.Step.{holds, reply, late_heard, erred, refused, outcome, replied, step}
use Rattle.paper.specs.Runs.{Call, runs}
use Rattle.paper.proofs.All.{All, all_append, all_without}
use Rattle.paper.proofs.Refusals.{Clear, reply_is, passed, refused_any}

-- ---- pieces of 118 bytes

abbrev pub Whole : List (Piece (List ℕ)) → Type 0
Whole = All (λ p. length p.body ≡ 118)

-- a run that is long enough is cut into whole pieces
abbrev pub Full : List (List ℕ) → Type 0
Full = All (λ x. length x ≡ 118)

full_chunks : (k : ℕ) (l : List ℕ) → k * 118 ≤ length l → Full (chunks 118 k l)
full_chunks zero l h = tt
full_chunks (suc k) l h = (length-take-le 118 l (omega arith), full_chunks k (drop 118 l) (omega (arith, length-drop 118 l)))

pub full_cut : (k : ℕ) (x : List ℕ) → Full (cut k x)
unfolding cut
full_cut k x =
    full_chunks k (filled k x)
    (omega (arith, length-append x (replicate (k * 118 - length x) fill), length-replicate {A = ℕ} (k * 118 - length x) fill))

whole-numbered : (s n : ℕ) (xs : List (List ℕ)) → Full xs → Whole (numbered wrap s n xs)
unfolding numbered
whole-numbered s n [] f = tt
whole-numbered s n (x ∷ xs) f = (f.0, whole-numbered s (wrap n) xs f.1)

-- ---- what is kept

pub record Kept (c : Controller) : Type 0 where
  pub whole : Whole c.streams.queue
  pub proximal : collects c.impact.collection ≡ true → c.standing.mode ≡ proximity

idle_only : (c : Controller) → collects c.impact.collection ≡ false → collects c.impact.collection ≡ true → c.standing.mode ≡ proximity
idle_only c f t = absurd (eqb-false 0 1 refl (ap (λ b. cond b 1 0) (sym f ∙ t)))

pub kept-start : Kept start
unfolding start
kept-start = record { whole = tt; proximal = idle_only start refl }

true_not_false : {b : Bool} → b ≡ true → b ≡ false → ⊥
true_not_false t f = eqb-false 1 0 refl (ap (λ b. cond b 1 0) (sym t ∙ f))

-- the mode whose number is 4
only_proximity : (m : Mode) → eqb (number m) 4 ≡ true → m ≡ proximity
unfolding number
only_proximity emc h = absurd (true_not_false h refl)
only_proximity upper h = absurd (true_not_false h refl)
only_proximity mid h = absurd (true_not_false h refl)
only_proximity lower h = absurd (true_not_false h refl)
only_proximity proximity h = refl
only_proximity surface h = absurd (true_not_false h refl)
only_proximity modes.extended h = absurd (true_not_false h refl)
only_proximity diagnostic h = absurd (true_not_false h refl)

-- one with no collection running, whatever its mode
pub quiet : (c : Controller) → Whole c.streams.queue → collects c.impact.collection ≡ false → Kept c
quiet c w f = record { whole = w; proximal = idle_only c f }

-- ---- entries

collection-emptied : (mode : Mode) (i : Impact) → (emptied mode i).collection ≡ i.collection
unfolding emptied
collection-emptied mode i = at (same mode proximity)
  where
    at : (b : Bool) → (cond b (record { flag = false; stamp = i.stamp; window = replicate 5 false; ring = replicate 512 0; collection = i.collection }) i).collection ≡ i.collection
    at true = refl
    at false = refl

kept-enter : (c : Controller) (mode : Mode) (locked : Bool) (reference : ℕ) → Whole c.streams.queue → collects c.impact.collection ≡ false
    → Kept (enter c mode locked reference)
unfolding enter
kept-enter c mode locked reference w f =
    quiet (enter c mode locked reference) w (ap collects (collection-emptied mode c.impact) ∙ f)

-- "mode 4 goes to 5 .. but not while an impact record is being collected": the rule leaves such a controller where it is
stays : (g : Standing) (s : Seen) → s.collecting ≡ true → g.mode ≡ proximity → ruled g s ≡ g.mode
unfolding ruled next
stays g s t h = rw (h, t) (at g.locked)
  where
    at : (b : Bool) → cond b proximity proximity ≡ proximity
    at true = refl
    at false = refl

same_refl : (m : Mode) → same m m ≡ true
unfolding number
same_refl emc = refl
same_refl upper = refl
same_refl mid = refl
same_refl lower = refl
same_refl proximity = refl
same_refl surface = refl
same_refl modes.extended = refl
same_refl diagnostic = refl

kept-moved : (c : Controller) → Kept c → Kept (moved c)
unfolding moved
kept-moved c k = at (same mode c.standing.mode) refl (collects c.impact.collection) refl
  where
    t : ℕ
    t = seconds c.clock.time

    seen : Seen
    seen = record { t = t; altitude = c.clock.altitude; collecting = collects c.impact.collection }

    mode : Mode
    mode = ruled c.standing seen

    at : (b : Bool) → same mode c.standing.mode ≡ b → (r : Bool) → collects c.impact.collection ≡ r
        → Kept (cond b c (enter c mode c.standing.locked t))
    at true e r f = k
    at false e true f =
        absurd
        (true_not_false (same_refl c.standing.mode)
        (ap (λ m. same m c.standing.mode) (sym (stays c.standing seen f (k.proximal f))) ∙ e))
    at false e false f = kept-enter c mode c.standing.locked t k.whole f

-- ---- queuing

pub kept-queued : (c : Controller) (s : ℕ) (x : List ℕ) → Kept c → Kept (queued c s x)
unfolding queued
kept-queued c s x k =
    record {
      whole = all_append _ c.streams.queue _ k.whole (whole-numbered s (c.streams.counts s) (cut (pieces s) x) (full_cut (pieces s) x));
      proximal = k.proximal;
    }

-- ---- ticks

kept-watching : (c : Controller) → Whole c.streams.queue → c.standing.mode ≡ proximity → Kept (watching c)
unfolding watching
kept-watching c w m = record { whole = w; proximal = λ t. m }

kept-completed : (c : Controller) → Whole c.streams.queue → Kept (completed c)
unfolding completed queued
kept-completed c w = at c.standing.locked
  where
    done : Controller
    done = queued (with_impact c (ended c.impact)) acc_i (impact_packet c.impact)

    whole-done : Whole done.streams.queue
    whole-done = (kept-queued (with_impact c (ended c.impact)) acc_i (impact_packet c.impact) (quiet (with_impact c (ended c.impact)) w refl)).whole

    at : (b : Bool) → Kept (cond b done (enter done surface false (seconds_of c.impact.stamp.time)))
    at true = quiet done whole-done refl
    at false = kept-enter done surface false (seconds_of c.impact.stamp.time) whole-done refl

kept-ticks : (c : Controller) (r : ℕ) → Kept c → Kept (ticks c r)
unfolding ticks m_raised
kept-ticks c r k = at (in_proximity c) refl (completes c)
  where
    d : Controller
    d = m_raised c

    e : Controller
    e = with_impact d (with_reading c.impact r)

    at : (b : Bool) → in_proximity c ≡ b → (f : Bool)
        → Kept (cond b (cond f (completed e) (watching e)) d)
    at true p true = kept-completed e k.whole
    at true p false = kept-watching e k.whole (only_proximity c.standing.mode p)
    at false p f = record { whole = k.whole; proximal = k.proximal }

-- ---- samples, commands, polls

kept-sampled : (c : Controller) (s : ℕ) (x : List ℕ) → Kept c → Kept (sampled c s x)
unfolding sampled closed kept_open
kept-sampled c s x k = at (closes c s)
  where
    o : Open
    o = joined_by (c.streams.opened s) (stamp_now c s) x

    at : (b : Bool) → Kept (cond b (closed c s o) (kept_open c s o))
    at true = kept-queued _ s _ (record { whole = k.whole; proximal = k.proximal })
    at false = record { whole = k.whole; proximal = k.proximal }

kept-obeyed : (c : Controller) (q : Request) → Kept c → Kept (obeyed c q)
unfolding obeyed cleared commanded
kept-obeyed c (clear mask) k = record { whole = all_without _ (names mask) c.streams.queue k.whole; proximal = k.proximal }
kept-obeyed c housekeeping k = kept-queued c hk _ k
kept-obeyed c (set_mode value) k =
    kept-enter (with_impact c (ended c.impact)) (mode_of (value % 8)) (leb 8 value) (seconds c.clock.time) k.whole refl

kept-performed : (c : Controller) (d : Decoded) → Kept c → Kept (performed c d)
unfolding performed
kept-performed c (request q) k = kept-obeyed c q k
kept-performed c (refusal n) k = k

kept-polled : (c : Controller) (cc : Channel) (q : List (Piece (List ℕ))) → c.streams.queue ≡ q → Kept c → Kept (poll_answered_from c cc q)
unfolding poll_answered_from poll_answered
kept-polled c cc [] e k = k
kept-polled c cc (p ∷ rest) e k = record { whole = (rw e at k.whole).1; proximal = k.proximal }

-- ---- calls and runs

kept-accepted : (c : Controller) (f : Frame) → Kept c → Kept (accepted c f)
unfolding accepted heard noted
kept-accepted c (broadcast cc time altitude spin phase) k =
    kept-moved (heard c cc time altitude spin phase) (record { whole = k.whole; proximal = k.proximal })
kept-accepted c (command cc id sequence parameters) k =
    kept-performed (noted c cc id sequence) (decoded id parameters) (record { whole = k.whole; proximal = k.proximal })
kept-accepted c (tick r) k = kept-ticks c r k
kept-accepted c (sample s x) k = kept-sampled c s x k
kept-accepted c (poll cc) k = kept-polled c cc c.streams.queue refl k
kept-accepted c (status cc low flags) k = k
kept-accepted c (analogue bytes) k = record { whole = k.whole; proximal = k.proximal }
kept-accepted c faulty k = k

kept-refused : (n : ℕ) (f : Frame) (c : Controller) → Kept c → Kept (refused n f c)
unfolding late_heard erred
kept-refused n f c k =
    refused_any Kept n f c k (λ cc. record { whole = k.whole; proximal = k.proximal })
    (λ cc m. record { whole = k.whole; proximal = k.proximal })

pub kept_step : (c : Controller) (bytes : List ℕ) (room : ℕ) → Kept c → Kept (step c bytes room).next
unfolding step replied
kept_step c bytes room k = at (reply (holds c) (frame_of bytes) room) (eqb (reply (holds c) (frame_of bytes) room) 0)
  where
    f : Frame
    f = frame_of bytes

    at : (n : ℕ) (b : Bool) → Kept (cond b (outcome 0 (answer c f) (accepted c f)) (outcome n [] (refused n f c))).next
    at n true = kept-accepted c f k
    at n false = kept-refused n f c k

pub kept-runs : (xs : List Call) (c : Controller) → Kept c → Kept (runs c xs)
unfolding runs
kept-runs [] c k = k
kept-runs (x ∷ xs) c k = kept-runs xs (step c x.bytes x.room).next (kept_step c x.bytes x.room k)

-- a collection runs only in mode 4
pub collects_in_4 : (xs : List Call) → collects (runs start xs).impact.collection ≡ true → (runs start xs).standing.mode ≡ proximity
collects_in_4 xs = (kept-runs xs start kept-start).proximal

-- ---- what accepted calls write

-- "Accepted polls write 126 bytes, status 2, others none"
abbrev pub written : Frame → ℕ
written (broadcast cc time altitude spin phase) = 0
written (command cc id sequence parameters) = 0
written (tick r) = 0
written (sample s x) = 0
written (poll cc) = 126
written (status cc low flags) = 2
written (analogue bytes) = 0
written faulty = 0

shown_size : (c : Controller) (cc : Channel) (q : List (Piece (List ℕ))) → Whole q → (length q ≡ 0 → ⊥) → length (poll_output_from c cc q) ≡ 126
unfolding poll_output_from poll_output
shown_size c cc [] w h = absurd (h refl)
shown_size c cc (p ∷ rest) w h = omega (arith, w.0)

-- of any controller whose pieces are whole
pub answer_size : (c : Controller) (f : Frame) → Whole c.streams.queue → Clear c f 9 → length (answer c f) ≡ written f
unfolding answer
answer_size c (broadcast cc time altitude spin phase) k e = refl
answer_size c (command cc id sequence parameters) k e = refl
answer_size c (tick r) k e = refl
answer_size c (sample s x) k e = refl
answer_size c (poll cc) k e = shown_size c cc c.streams.queue k (eqb-false (length c.streams.queue) 0 e)
answer_size c (status cc low flags) k e = refl
answer_size c (analogue bytes) k e = refl
answer_size c faulty k e = refl

pub writes : (c : Controller) (bytes : List ℕ) (room : ℕ) → Kept c → (step c bytes room).reply ≡ 0
    → length (step c bytes room).out ≡ written (frame_of bytes)
unfolding step replied
writes c bytes room k e =
    let r : reply (holds c) (frame_of bytes) room ≡ 0 = sym (reply_is c bytes room) ∙ e in
    rw r (answer_size c (frame_of bytes) k.whole (passed c (frame_of bytes) room r).waits)

pub runs_write : (xs : List Call) (x : Call) → (step (runs start xs) x.bytes x.room).reply ≡ 0
    → length (step (runs start xs) x.bytes x.room).out ≡ written (frame_of x.bytes)
runs_write xs x = writes (runs start xs) x.bytes x.room (kept-runs xs start kept-start)
