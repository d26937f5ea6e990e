-- What program bench prints is document 01's: of a frame the reply and the bytes of the controller that its state holds, and so of
-- any input those of its frames, from a fresh controller on.
-- Assumes nothing.
use mathlib.Core.Path.{◌≡◌, refl, sym, ap, subst, ◌∙◌}
use mathlib.Core.Bool.{Bool, true, false, cond, ◌&&◌, true≢false}
use mathlib.Core.List.{List, [], ◌∷◌, ◌++◌, flatten}
use Prim.Native.Nat.{ℕ, ◌+◌, ◌≤◌}
use native.Mathlib.Omega.{arith}
use lib.Dec.{eqb, leb}
use lib.ListN.{length, take, drop, replicate, length-replicate}
use lib.Seq.{take_at}
use borrow.Author.Tests.{eqb-true, eqb-false, le-leb}
use Rattle.wire.specs.Wire.{put, Bytes}
use Rattle.lines.specs.Hex.{hex_of}
use Rattle.lines.specs.Frames.{frames_of, EachOfBytes, answers}
use Rattle.lines.proofs.Frames.{spoken-answers, frames-of-bytes}
use Rattle.paper.specs.Frames.{Frame, faulty, byte, kind, frame_of}
use Rattle.paper.specs.Controller.{Controller, start}
use Rattle.paper.specs.Step.{Outcome, step}
use Rattle.paper.specs.Runs.{replies}
use Rattle.paper.proofs.Shapes.{either, sided}
use Rattle.paper.proofs.Refusals.{Clear, passed, reply_is, silent}
use Rattle.paper.proofs.Kept.{Kept, kept-start, kept_step, written as written_for, writes}
use Rattle.state.specs.Layout.{state_bytes}
use Rattle.state.specs.View.{view}
use Rattle.state.specs.Range.{Fit}
use Rattle.state.specs.Fresh.{started_on}
use Rattle.machine.specs.Called.{step_of, start_of}
use Rattle.machine.specs.Runs.{Agrees}
use Rattle.machine.proofs.Fresh.{start-view, start-fit}
use Rattle.machine.proofs.Steps.{steps}
use Rattle.programs.specs.Bench.{bytes_written, blank, answer_to, begun}
use Rattle.programs.specs.Programs.{longest, bench}
use Rattle.programs.specs.Says.{bench_line, lines_of, lent}

-- ---- how many bytes an accepted frame writes: by its first byte, as by its row of the table

-- of a frame that is not faulty
abbrev Counts : Controller → List ℕ → Frame → Type 0
Counts c f x = Clear c x 1 → bytes_written 0 f ≡ written_for x

module _ (c : Controller) (f : List ℕ) where
  none : Counts c f faulty
  none e = absurd (true≢false e)

  -- a first byte k, tested with the frame's size
  by : (k : ℕ) (sized : Bool) → (kind f k && sized) ≡ true → bytes_written 0 f ≡ cond (eqb k 5) 126 (cond (eqb k 6) 2 0)
  unfolding bytes_written
  by k sized e = ap (λ (n : ℕ). cond (eqb n 5) 126 (cond (eqb n 6) 2 0)) (eqb-true (byte f 0) k (first (kind f k) e))
    where
      first : (a : Bool) → (a && sized) ≡ true → a ≡ true
      first true p = refl
      first false p = p

  -- row by row
  pub counts : Counts c f (frame_of f)
  unfolding frame_of
  counts =
      either (Counts c f) (kind f 1 && eqb (length f) 8) _ _ (λ e. sided (Counts c f) (byte f 1) _ (λ cc n. by 1 (eqb (length f) 8) e) none)
      (either (Counts c f) (kind f 2 && leb 6 (length f)) _ _ (λ e. sided (Counts c f) (byte f 1) _ (λ cc n. by 2 (leb 6 (length f)) e) none)
      (either (Counts c f) (kind f 3 && eqb (length f) 3) _ _ (λ e n. by 3 (eqb (length f) 3) e)
      (either (Counts c f) (kind f 4 && leb 2 (length f)) _ _ (λ e n. by 4 (leb 2 (length f)) e)
      (either (Counts c f) (kind f 5 && eqb (length f) 2) _ _ (λ e. sided (Counts c f) (byte f 1) _ (λ cc n. by 5 (eqb (length f) 2) e) none)
      (either (Counts c f) (kind f 6 && eqb (length f) 4) _ _ (λ e. sided (Counts c f) (byte f 1) _ (λ cc n. by 6 (eqb (length f) 4) e) none)
      (either (Counts c f) (kind f 7 && eqb (length f) 59) _ _ (λ e n. by 7 (eqb (length f) 59) e) none))))))

-- ---- one frame

-- the front of an output that is printed is what document 01's controller wrote
front : (c : Controller) (f : List ℕ) (room : ℕ) (o : List ℕ) → Kept c
    → take (bytes_written (step c f room).reply f) (put o 0 (step c f room).out) ≡ (step c f room).out
unfolding bytes_written
front c f room o k = at (eqb (step c f room).reply 0) refl
  where
    p : Outcome
    p = step c f room

    at : (b : Bool) → eqb p.reply 0 ≡ b → take (bytes_written p.reply f) (put o 0 p.out) ≡ p.out
    at true e =
        let r : p.reply ≡ 0 = eqb-true p.reply 0 e in
        let n : bytes_written p.reply f ≡ written_for (frame_of f) =
        ap (λ (m : ℕ). bytes_written m f) r ∙ counts c f (passed c (frame_of f) room (sym (reply_is c f room) ∙ r)).shape in
        take_at p.out (drop (0 + length p.out) o) (bytes_written p.reply f) (writes c f room k r ∙ sym n)
    at false e = rw e (sym (silent c f room (eqb-false p.reply 0 e)))

-- the text of a frame
pub frame_says : (s f : List ℕ) → Fit s → Kept (view s) → Bytes f
    → (answer_to s f).text ≡ bench_line ((step (view s) f 126).reply, (step (view s) f 126).out)
unfolding blank
frame_says s f g k b =
    let p : Outcome = step (view s) f 126 in
    let a : Agrees (step_of s f blank) p blank = steps s f blank g b in
    (λ i. hex_of (a.reply i ∷ take (bytes_written (a.reply i) f) (a.out i)) ++ (10 ∷ []))
    ∙ ap (λ (x : List ℕ). bench_line (p.reply, x)) (front (view s) f 126 blank k)

-- ---- frames one after the other

frames_say : (fs : List (List ℕ)) (s : List ℕ) → Fit s → Kept (view s) → EachOfBytes fs
    → answers answer_to s fs ≡ lines_of bench_line (replies (view s) (lent 126 fs))
unfolding answers replies flatten blank
frames_say [] s g k b = refl
frames_say (f ∷ fs) s g k b =
    let a : Agrees (step_of s f blank) (step (view s) f 126) blank = steps s f blank g b.0 in
    let text = frame_says s f g k b.0 in
    let rest =
    frames_say fs (step_of s f blank).state a.fits (subst Kept (sym a.held) (kept_step (view s) f 126 k)) b.1
    ∙ ap (λ (c : Controller). lines_of bench_line (replies c (lent 126 fs))) a.held in
    λ i. text i ++ rest i

-- ---- an input, from the start on

started : (s : List ℕ) → state_bytes ≤ length s → (start_of s).state ≡ started_on s
unfolding start_of
started s h = rw (le-leb _ _ h)

started_say : (s : List ℕ) → state_bytes ≤ length s → (fs : List (List ℕ)) → EachOfBytes fs
    → answers answer_to (start_of s).state fs ≡ lines_of bench_line (replies start (lent 126 fs))
started_say s h fs b =
    ap (λ (x : List ℕ). answers answer_to x fs) (started s h)
    ∙ frames_say fs (started_on s) (start-fit s h) (subst Kept (sym (start-view s h)) kept-start) b
    ∙ ap (λ (c : Controller). lines_of bench_line (replies c (lent 126 fs))) (start-view s h)

pub bench_says : (input : List ℕ) → bench input ≡ lines_of bench_line (replies start (lent 126 (frames_of longest input)))
unfolding bench begun
bench_says input =
    spoken-answers longest answer_to begun input
    ∙ started_say (replicate state_bytes 0) (omega (arith, length-replicate {A = ℕ} state_bytes 0)) (frames_of longest input) (frames-of-bytes longest input)
