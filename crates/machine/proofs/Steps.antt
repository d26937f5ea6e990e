-- One call on lent bytes that fit is one step of document 01's controller that they hold: the same reply, its bytes at the output's
-- front, and bytes that hold the controller it leaves, and fit. Then the same of runs, and of runs from a fresh start.
-- Assumes nothing.
use mathlib.Core.Path.{◌≡◌, refl, sym, ap, ◌∙◌, subst}
use mathlib.Core.Bool.{Bool, true, false, cond, ◌&&◌}
use mathlib.Core.List.{List, [], ◌∷◌}
use Prim.Native.Nat.{ℕ, ◌+◌, ◌<◌}
use native.Mathlib.Omega.{arith}
use borrow.Author.Tests.{eqb-true, eqb-false, ltb-false, not-false}
use lib.Dec.{eqb, ltb}
use lib.ListN.{length}
use lib.Seq.{get_or-drop}
use Rattle.wire.specs.Wire.{be16, put, Bytes}
use Rattle.paper.specs.Frames.{Channel, Frame, broadcast, command, tick, sample, poll, status, analogue, faulty, frame_of}
use Rattle.paper.specs.Commands.{Request, clear, housekeeping, set_mode, Decoded, request, refusal, outside, decoded}
use Rattle.paper.specs.Streams.{acc_i, hk, width}
use Rattle.paper.specs.Controller.{Controller, start}
use Rattle.paper.specs.Acts.{moved, noted, obeyed, performed, accepted, answer}
use Rattle.paper.specs.Step.{holds, reply, crowded, queues, count_of, change, changed, refused, outcome, replied, step}
use Rattle.paper.specs.Runs.{runs}
use Rattle.paper.specs.History.{history, sent_by, Counted}
use Rattle.paper.proofs.History.{counted}
use Rattle.paper.proofs.Shapes.{Shaped, shaped}
use Rattle.paper.proofs.Refusals.{Passed, passed, any_change}
use Rattle.state.specs.Layout.{state_bytes, controller_mark}
use Rattle.state.specs.View.{waiting_in, view}
use Rattle.state.specs.Range.{Whole, Fit, fit}
use Rattle.state.specs.Fresh.{started_on}
use Rattle.lent.specs.Told.{res}
use Rattle.lent.specs.Calls.{Framed, calls}
use Rattle.lent.proofs.Fitting.{true_fitting}
use Rattle.machine.specs.Heard.{heard_on}
use Rattle.machine.specs.Obeyed.{noted_on, performed_on}
use Rattle.machine.specs.Called.{acted_on, changed_on, refused_on, left_on, told_on, replied_on, step_of}
use Rattle.machine.specs.Runs.{Agrees, run_of}
use Rattle.machine.proofs.Past.{past-whole, past-fit, noted-past, heard-past, acted_past, refused-past}
use Rattle.machine.proofs.Queue.{queue-length}
use Rattle.machine.proofs.Counts.{late-view, noted-view, erred-view, housed-view}
use Rattle.machine.proofs.Broadcasts.{heard-view, moved_view}
use Rattle.machine.proofs.Commands.{obeyed-view}
use Rattle.machine.proofs.Ticks.{ticked-view}
use Rattle.machine.proofs.Sent.{free-room}
use Rattle.machine.proofs.Samples.{sampled-view}
use Rattle.machine.proofs.Polls.{polled-view}
use Rattle.machine.proofs.Fresh.{start-view, start-fit}

-- ---- what a command's request says of its fields

within : (b : Bool) (n : ℕ) (q : Decoded) (v : ℕ) → (q ≡ request (set_mode v) → v < 16)
    → cond b q (refusal n) ≡ request (set_mode v) → v < 16
within true n q v h e = h e
within false n q v h e = absurd (let z : ◌≡◌ {A = ℕ} 0 1 = cc in omega arith)

either : (b : Bool) (p q : Decoded) (v : ℕ) → (p ≡ request (set_mode v) → v < 16) → (q ≡ request (set_mode v) → v < 16)
    → cond b p q ≡ request (set_mode v) → v < 16
either true p q v h k e = h e
either false p q v h k e = k e

-- "0032 set mode, two bytes, 0 to 15"
pub mode_small : (id : ℕ) (parameters : List ℕ) (v : ℕ) → decoded id parameters ≡ request (set_mode v) → v < 16
unfolding decoded
mode_small id parameters v =
    either (eqb id 0x0013) _ _ v
    (within (eqb (length parameters) 2) 3 _ v (either (outside (be16 parameters 0)) _ _ v (λ e. absurd (wrong e)) (λ e. absurd (other e))))
    (either (eqb id 0x0016) _ _ v (within (eqb (length parameters) 0) 3 _ v (λ e. absurd (lone e)))
    (either (eqb id 0x0032) _ _ v (within (eqb (length parameters) 2) 3 _ v (ranged (ltb 15 (be16 parameters 0)) refl)) (λ e. absurd (wrong e))))
  where
    wrong : {n : ℕ} → refusal n ≡ request (set_mode v) → ⊥
    wrong e = let z : ◌≡◌ {A = ℕ} 0 1 = cc in omega arith

    other : {m : ℕ} → request (clear m) ≡ request (set_mode v) → ⊥
    other e = let z : ◌≡◌ {A = ℕ} 0 1 = cc in omega arith

    lone : request housekeeping ≡ request (set_mode v) → ⊥
    lone e = let z : ◌≡◌ {A = ℕ} 0 1 = cc in omega arith

    same : request (set_mode (be16 parameters 0)) ≡ request (set_mode v) → be16 parameters 0 ≡ v
    same e = cc

    ranged : (b : Bool) → ltb 15 (be16 parameters 0) ≡ b → cond b (refusal 4) (request (set_mode (be16 parameters 0))) ≡ request (set_mode v) → v < 16
    ranged true t e = absurd (wrong e)
    ranged false t e = omega (arith, ltb-false 15 (be16 parameters 0) t, same e)

-- ---- an accepted frame

module _ (s : List ℕ) (f : Whole s) where
  both_false : (a b : Bool) → a ≡ true → (a && b) ≡ false → b ≡ false
  both_false true b t e = e
  both_false false b t e = absurd (eqb-false 0 1 refl (ap (λ (x : Bool). cond x 1 0) t))

  -- a command's request, where there is room for what it queues
  performs : (c : Channel) (id sequence : ℕ) (parameters : List ℕ) (d : Decoded) → decoded id parameters ≡ d
      → (queues d && crowded (view s) hk) ≡ false
      → view (performed_on (noted_on s c id sequence) d) ≡ performed (noted (view s) c id sequence) d
  unfolding performed_on performed noted
  performs c id sequence parameters (refusal n) e room = noted-view s f c id sequence
  performs c id sequence parameters (request q) e room =
      let n : List ℕ = noted_on s c id sequence in
      let seen : view n ≡ noted (view s) c id sequence = noted-view s f c id sequence in
      let waits : waiting_in n ≡ waiting_in s =
      sym (queue-length n) ∙ ap (λ (x : Controller). length x.streams.queue) seen ∙ queue-length s in
      obeyed-view n q (past-whole (noted-past s c id sequence f) f)
      (λ h. let free = free-room s hk (both_false (queues (request q)) _ (ap (λ (r : Request). queues (request r)) h) room) in omega (arith, waits, free))
      (λ v h. mode_small id parameters v (e ∙ ap request h))
      ∙ ap (λ (x : Controller). obeyed x q) seen

  pub acted_view : (x : Frame) (room : ℕ) → Shaped Bytes x → Passed (view s) x room → view (acted_on s x) ≡ accepted (view s) x
  unfolding acted_on accepted
  acted_view (broadcast c time altitude spin phase) room h p =
      moved_view (heard_on s c time altitude spin phase) (past-whole (heard-past s c time altitude spin phase f) f)
      ∙ ap moved (heard-view s f c time altitude spin phase)
  acted_view (command c id sequence parameters) room h p = performs c id sequence parameters (decoded id parameters) refl p.roomy
  acted_view (tick r) room h p =
      ticked-view s r f (omega (arith, ltb-false 4095 r p.ranged)) (λ e. free-room s acc_i (both_false _ _ e p.roomy))
  acted_view (sample t x) room h p =
      sampled-view s t x f h (not-false _ p.carries) (eqb-true (length x) (width t) (not-false _ p.sized)) p.ranged p.roomy
  acted_view (poll c) room h p =
      polled-view s c f (omega (arith, queue-length s, eqb-false (length (view s).streams.queue) 0 p.waits))
  acted_view (status c low flags) room h p = refl
  acted_view (analogue x) room h p = housed-view s f x h
  acted_view faulty room h p = refl

  -- ---- a refused frame

  pub refused-view : (n : ℕ) (x : Frame) → view (refused_on s n x) ≡ refused n x (view s)
  unfolding refused_on refused
  refused-view n x =
      any_change (λ y. view (changed_on s y) ≡ changed y (view s)) refl (late-view s f) (erred-view s f) (change n (count_of x))

-- ---- one call

-- one call is one step
pub steps : (s f o : List ℕ) → Fit s → Bytes f → Agrees (step_of s f o) (step (view s) f (length o)) o
unfolding step_of replied_on told_on left_on step replied
steps s f o g b = rw (true_fitting state_bytes controller_mark s g) (at n refl (eqb n 0) refl)
  where
    x : Frame
    x = frame_of f

    n : ℕ
    n = reply (holds (view s)) x (length o)

    at : (m : ℕ) → n ≡ m → (t : Bool) → eqb m 0 ≡ t
        → Agrees (res m (cond t (put o 0 (answer (view s) x)) o) (cond t (acted_on s x) (refused_on s m x)))
        (cond t (outcome 0 (answer (view s) x) (accepted (view s) x)) (outcome m [] (refused m x (view s)))) o
    at m e true t =
        let w : Whole s = g.whole in
        let p = passed (view s) x (length o) (e ∙ eqb-true m 0 t) in
        record {
          reply = eqb-true m 0 t;
          out = refl;
          held = acted_view s w x (length o) (shaped Bytes f (λ i. rw (get_or-drop 2 f i 0) (b (2 + i)))) p;
          fits = past-fit (acted_past s x (length o) w (shaped (λ y. Unit {0}) f tt) p) g;
        }
    at m e false t =
        let w : Whole s = g.whole in
        record { reply = refl; out = refl; held = refused-view s w m x; fits = past-fit (refused-past s m x w) g }

-- ---- runs

-- lent bytes that hold a controller, and fit
abbrev pub Holds : List ℕ → Controller → Type 0
Holds s c = (view s ≡ c) × Fit s

pub runs-view : (xs : List (List ℕ × List ℕ)) (s : List ℕ) → Fit s → Framed xs → Holds (run_of s xs) (runs (view s) (calls xs))
unfolding run_of runs
runs-view [] s g h = (refl, g)
runs-view (x ∷ xs) s g h =
    let a = steps s x.0 x.1 g h.0 in
    let rest = runs-view xs (step_of s x.0 x.1).state a.fits h.1 in
    (rest.0 ∙ ap (λ (c : Controller). runs c (calls xs)) a.held, rest.1)

-- "10 never meets a state made by starting and later calls": such bytes hold document 01's controller after the same calls, and
-- fit; and so a further call replies as the paper's step does.
module _ (s : List ℕ) (whole : Whole s) (xs : List (List ℕ × List ℕ)) (h : Framed xs) where
  pub started_runs : Holds (run_of (started_on s) xs) (runs start (calls xs))
  started_runs =
      let r = runs-view xs (started_on s) (start-fit s whole) h in
      (r.0 ∙ ap (λ (c : Controller). runs c (calls xs)) (start-view s whole), r.1)

  pub never_10 : fit (run_of (started_on s) xs) ≡ true
  never_10 = true_fitting state_bytes controller_mark (run_of (started_on s) xs) started_runs.1

  pub started_steps : (f o : List ℕ) → Bytes f
      → Agrees (step_of (run_of (started_on s) xs) f o) (step (runs start (calls xs)) f (length o)) o
  started_steps f o b =
      subst (λ (c : Controller). Agrees (step_of (run_of (started_on s) xs) f o) (step c f (length o)) o) started_runs.0
      (steps (run_of (started_on s) xs) f o started_runs.1 b)

-- ---- claims on runs, of calls

-- Counts of bytes that a fresh start and later calls left are the numbers of the history: broadcasts, command packets, polls and
-- commands modulo 65536, errors modulo 256, each stream's pieces ever queued modulo 4096.
pub started_counts : (s : List ℕ) → Whole s → (xs : List (List ℕ × List ℕ)) → Framed xs
    → Counted (view (run_of (started_on s) xs)) (history start (calls xs)) (sent_by start (calls xs))
started_counts s whole xs h =
    subst (λ (c : Controller). Counted c (history start (calls xs)) (sent_by start (calls xs))) (sym (started_runs s whole xs h).0)
    (counted (calls xs))
