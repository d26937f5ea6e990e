-- Demand 1 holds.
-- Assumes nothing.
use mathlib.Core.Path.{◌≡◌, refl, sym, ap, ◌∙◌}
use mathlib.Core.Bool.{Bool, true, false, cond}
use mathlib.Core.List.{List}
use Prim.Native.Nat.{ℕ, ◌≤◌}
use lib.Dec.{eqb}
use lib.ListN.{length, drop}
use borrow.Author.Tests.{le-leb, lt-leb, ne_eqb, eqb-false}
use Rattle.paper.specs.Frames.{Channel, Frame, broadcast, command, frame_of}
use Rattle.paper.specs.Controller.{Controller, start}
use Rattle.paper.specs.Acts.{answer}
use Rattle.paper.specs.Reader.{Reader, reader_start, reader_step}
use Rattle.paper.specs.Step.{unfit, holds, reply, is_error, late_heard, erred, refused, count_of, change, changes_listed}
use Rattle.paper.proofs.Refusals.{unlisted}
use Rattle.state.specs.Layout.{controller_mark, state_bytes}
use Rattle.state.specs.View.{view}
use Rattle.state.specs.Range.{fit}
use Rattle.lent.specs.Told.{Told, told, Res, res}
use Rattle.state.specs.Fresh.{started_on}
use Rattle.wire.specs.Wire.{put}
use Rattle.machine.specs.Called.{acted_on, changed_on, refused_on, left_on, told_on, replied_on, step_of, start_of}
use Rattle.machine.specs.Runs.{run_of}
use Rattle.machine.proofs.Past.{call_tail}
use Rattle.machine.proofs.Fresh.{start-view, start_tail}
use Rattle.machine.proofs.Steps.{refused-view, never_10}
use Rattle.shelf.specs.Layout.{reader_mark, reader_bytes}
use Rattle.shelf.specs.View.{reader_in}
use Rattle.shelf.specs.Range.{fit as fit_reader}
use Rattle.shelf.specs.Fresh.{start_of as start_reader, started_on as started_reader}
use Rattle.shelf.specs.Received.{read_of}
use Rattle.shelf.specs.Runs.{reads_of}
use Rattle.shelf.proofs.Fresh as fresh
use Rattle.shelf.proofs.Refusals.{kept, output, unfit as unfit-told}
use Rattle.lent.proofs.Fitting.{fitting_true, other_mark}
use Rattle.shelf.proofs.Steps.{received-view}
use Rattle.shelf.proofs.Leaves.{later_bytes, output_past, moved_on_lem}
use Rattle.shelf.proofs.Runs.{never_25}
use Rattle.demand.specs.Refusing.{found, Starts, Demand1}

-- ---- the controller

number : (s f o : List ℕ) → (step_of s f o).reply ≡ reply (found s) (frame_of f) (length o)
unfolding step_of replied_on told_on reply
number s f o = at (fit s)
  where
    at : (b : Bool) → (cond b (replied_on s (frame_of f) o) (res 10 o s)).reply ≡ reply (cond b (holds (view s)) unfit) (frame_of f) (length o)
    at true = refl
    at false = refl

silent : (s f o : List ℕ) → ((step_of s f o).reply ≡ 0 → ⊥) → (step_of s f o).out ≡ o
unfolding step_of replied_on told_on
silent s f o = at (fit s)
  where
    at : (b : Bool) → ((cond b (replied_on s (frame_of f) o) (res 10 o s)).reply ≡ 0 → ⊥)
        → (cond b (replied_on s (frame_of f) o) (res 10 o s)).out ≡ o
    at true h = ap (λ (b : Bool). cond b (put o 0 (answer (view s) (frame_of f))) o) (ne_eqb _ 0 h)
    at false h = refl

-- a refusal that is not 10 comes from bytes that fit
fitting : (s f o : List ℕ) → ((step_of s f o).reply ≡ 10 → ⊥) → fit s ≡ true
unfolding step_of
fitting s f o h = at (fit s) refl
  where
    at : (b : Bool) → fit s ≡ b → fit s ≡ true
    at true e = e
    at false e = absurd (h (rw e))

-- and leaves what is stored for it
left_by : (s f o : List ℕ) → fit s ≡ true → ((step_of s f o).reply ≡ 0 → ⊥) → (step_of s f o).state ≡ refused_on s (step_of s f o).reply (frame_of f)
unfolding step_of replied_on told_on left_on
left_by s f o e h =
    let n : ℕ = reply (holds (view s)) (frame_of f) (length o) in
    let step : step_of s f o ≡ replied_on s (frame_of f) o = rw e in
    let told-n : (step_of s f o).reply ≡ n = ap (λ (q : Res). q.reply) step in
    ap (λ (q : Res). q.state) step
    ∙ ap (λ (b : Bool). cond b (acted_on s (frame_of f)) (refused_on s n (frame_of f))) (ne_eqb n 0 (λ z. h (told-n ∙ z)))
    ∙ ap (λ (m : ℕ). refused_on s m (frame_of f)) (sym told-n)

left-view : (s f o : List ℕ) → fit s ≡ true → ((step_of s f o).reply ≡ 0 → ⊥)
    → view (step_of s f o).state ≡ refused (step_of s f o).reply (frame_of f) (view s)
left-view s f o e h = ap view (left_by s f o e h) ∙ refused-view s (fitting_true state_bytes controller_mark s e).whole (step_of s f o).reply (frame_of f)

differ : (n m k : ℕ) → n ≡ m → eqb m k ≡ false → n ≡ k → ⊥
differ n m k e h z = eqb-false m k h (sym e ∙ z)

late : (s f o : List ℕ) (cc : Channel) (time altitude spin phase : ℕ) → frame_of f ≡ broadcast cc time altitude spin phase
    → (step_of s f o).reply ≡ 5 → view (step_of s f o).state ≡ late_heard (view s) cc
unfolding refused
late s f o cc time altitude spin phase e n =
    left-view s f o (fitting s f o (differ _ 5 10 n refl)) (differ _ 5 0 n refl) ∙ rw (n, e)

-- numbers that are errors
no_error : (n k : ℕ) → is_error n ≡ true → is_error k ≡ false → n ≡ k → ⊥
no_error n k t h z = eqb-false 0 1 refl (ap (λ (b : Bool). cond b 1 0) (sym h ∙ ap is_error (sym z) ∙ t))

error : (s f o : List ℕ) (cc : Channel) (id sequence : ℕ) (parameters : List ℕ) → frame_of f ≡ command cc id sequence parameters
    → is_error (step_of s f o).reply ≡ true → view (step_of s f o).state ≡ erred (view s) cc (step_of s f o).reply
unfolding refused
error s f o cc id sequence parameters e t =
    left-view s f o (fitting s f o (no_error (step_of s f o).reply 10 t refl)) (no_error (step_of s f o).reply 0 t refl)
    ∙ at (step_of s f o).reply t
  where
    at : (n : ℕ) → is_error n ≡ true → refused n (frame_of f) (view s) ≡ erred (view s) cc n
    at n t = rw (e, t)

-- bytes that stay
stays : (s : List ℕ) (n : ℕ) (f : Frame) → changes_listed n f ≡ false → refused_on s n f ≡ s
unfolding refused_on
stays s n f h = ap (changed_on s) (unlisted (change n (count_of f)) h)

nothing_else : (s f o : List ℕ) → ((step_of s f o).reply ≡ 0 → ⊥) → changes_listed (step_of s f o).reply (frame_of f) ≡ false
    → (step_of s f o).state ≡ s
unfolding step_of
nothing_else s f o h l = at (fit s) refl
  where
    at : (b : Bool) → fit s ≡ b → (step_of s f o).state ≡ s
    at true e = left_by s f o e h ∙ stays s (step_of s f o).reply (frame_of f) l
    at false e = rw e

-- ---- starting

-- where there is room, what is started
pub begun : (s : List ℕ) → state_bytes ≤ length s → start_of s ≡ told 0 (started_on s)
unfolding start_of
begun s h = rw (le-leb _ _ h)

pub reader-begun : (s : List ℕ) → reader_bytes ≤ length s → start_reader s ≡ told 0 (started_reader s)
unfolding start_reader
reader-begun s h = rw (le-leb _ _ h)

starts : Starts Controller start_of state_bytes 10 view start
unfolding start_of
starts =
    record {
      enough = λ s h. (
        ap (λ (t : Told). t.reply) (begun s h),
        ap (λ (t : Told). view t.state) (begun s h) ∙ start-view s h,
        start_tail s,
      );
      short = λ s h. rw (lt-leb _ _ h);
    }

reader-starts : Starts Reader start_reader reader_bytes 25 reader_in reader_start
unfolding start_reader
reader-starts =
    record {
      enough = λ s h. (
        ap (λ (t : Told). t.reply) (reader-begun s h),
        ap (λ (t : Told). reader_in t.state) (reader-begun s h) ∙ fresh.start-view s h,
        ap (λ (t : Told). drop reader_bytes t.state) (reader-begun s h) ∙ fresh.start-past s h,
      );
      short = λ s h. rw (lt-leb _ _ h);
    }

-- ---- the reader

hears : (s f o : List ℕ) → fit_reader s ≡ true → (read_of s f o).reply ≡ (reader_step (reader_in s) f (length o)).reply
unfolding read_of
hears s f o e = rw e

-- ---- one's bytes handed to the other

controllers : (s f o : List ℕ) → fit s ≡ true → read_of s f o ≡ res 25 o s
controllers s f o h =
    unfit-told s f o
    (other_mark reader_bytes reader_mark s
    (λ e. eqb-false controller_mark reader_mark refl (sym (fitting_true state_bytes controller_mark s h).mark ∙ e)))

readers : (s f o : List ℕ) → fit_reader s ≡ true → step_of s f o ≡ res 10 o s
unfolding step_of
readers s f o h =
    rw (other_mark state_bytes controller_mark s
    (λ e. eqb-false reader_mark controller_mark refl (sym (fitting_true reader_bytes reader_mark s h).mark ∙ e)))

pub demand1 : Demand1
demand1 =
    record {
      starts = starts;
      judges =
          record {
            number = number;
            silent = silent;
            late = late;
            error = error;
            nothing_else = nothing_else;
            later_bytes = call_tail;
            never_10 = λ s h xs b. ap (λ (t : Told). fit (run_of t.state xs)) (begun s h) ∙ never_10 s h xs b;
          };
      reader-starts = reader-starts;
      receives =
          record {
            unfit = unfit-told;
            number = hears;
            silent = λ s f o. (output s f o).stays;
            only_23 = kept;
            handed_past = output_past;
            later_bytes = later_bytes;
            leaves = λ s f o e b. received-view s f o (fitting_true reader_bytes reader_mark s e) b;
            moved_on_lem = moved_on_lem;
            never_25 = λ s h xs b. ap (λ (t : Told). fit_reader (reads_of t.state xs)) (reader-begun s h) ∙ never_25 s h xs b;
          };
      apart = record { controllers = controllers; readers = readers };
    }
