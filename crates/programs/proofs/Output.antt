-- WHAT STOOD IN THE OUTPUT DOES NOT MATTER: whatever bytes an output of the right length holds before a call, the programs print what they
-- print with zeros there, and the same state is left. So one buffer serves all lines, and nothing has to be wiped.
-- Assumes nothing.
use mathlib.Core.Path.{◌≡◌, refl, sym, ap, ◌∙◌}
use mathlib.Core.Bool.{Bool, true, false, cond}
use mathlib.Core.List.{List, [], ◌∷◌, ◌++◌}
use Prim.Native.Nat.{ℕ, zero, suc, ◌+◌, ◌%◌, ◌≤◌}
use native.Mathlib.Omega.{arith}
use lib.Dec.{eqb}
use lib.ListN.{length, take, drop}
use lib.Seq.{take_at}
use borrow.Author.Tests.{eqb-true}
use Rattle.wire.specs.Wire.{put}
use Rattle.wire.proofs.Runs.{length_part}
use Rattle.paper.specs.Frames.{frame_of}
use Rattle.paper.specs.Acts.{answer}
use Rattle.paper.specs.Step.{holds, reply}
use Rattle.paper.specs.Reader.{ReaderOutcome, reader_step}
use Rattle.paper.proofs.Refusals.{passed}
use Rattle.paper.proofs.Kept.{Whole, answer_size}
use Rattle.state.specs.Layout.{state_bytes, slot_at, controller_mark}
use Rattle.state.specs.View.{view, pieces_in, first_in, waiting_in}
use Rattle.state.specs.Range as State
use Rattle.lent.specs.Told.{res}
use Rattle.lent.proofs.Fitting.{fitting_true}
use Rattle.lines.specs.Hex.{hex_of}
use Rattle.lines.specs.Talk.{Answer}
use Rattle.machine.specs.Called.{step_of, replied_on, told_on, left_on}
use Rattle.shelf.specs.Range as Shelf
use Rattle.shelf.specs.Layout.{reader_bytes, reader_mark}
use Rattle.shelf.specs.View.{reader_in}
use Rattle.shelf.specs.Received.{read_of, told_of, received_on}
use Rattle.shelf.proofs.Handed.{handed-listed}
use Rattle.programs.specs.Bench as Bench
use Rattle.programs.specs.Reader as Reader
use Rattle.programs.proofs.Bench.{counts}
use Rattle.programs.proofs.Says.{front}

-- ---- bench

-- the pieces that wait in a state of that many bytes are whole
pieces_whole : (s : List ℕ) (i n : ℕ) → state_bytes ≤ length s → Whole (pieces_in s i n)
unfolding pieces_in
pieces_whole s i zero h = tt
pieces_whole s i (suc n) h = (length_part s (slot_at (i % 48) + 2) 118 (omega arith), pieces_whole s (i + 1) n h)

queue-whole : (s : List ℕ) → state_bytes ≤ length s → Whole (view s).streams.queue
unfolding view
queue-whole s h = pieces_whole s (first_in s) (waiting_in s) h

-- the bytes of a frame's output that are printed, whatever stood there
shown : (s f o : List ℕ) → state_bytes ≤ length s → (n : ℕ) → reply (holds (view s)) (frame_of f) 126 ≡ n
    → take (Bench.bytes_written n f) (cond (eqb n 0) (put o 0 (answer (view s) (frame_of f))) o) ≡ cond (eqb n 0) (answer (view s) (frame_of f)) []
unfolding Bench.bytes_written
shown s f o h n e = at (eqb n 0) refl
  where
    a : List ℕ
    a = answer (view s) (frame_of f)

    at : (b : Bool) → eqb n 0 ≡ b
        → take (Bench.bytes_written n f) (cond b (put o 0 a) o) ≡ cond b a []
    at true p =
        let z : n ≡ 0 = eqb-true n 0 p in
        let k = passed (view s) (frame_of f) 126 (e ∙ z) in
        let w : Bench.bytes_written n f ≡ length a = ap (λ (m : ℕ). Bench.bytes_written m f) z ∙ counts (view s) f k.shape ∙ sym (answer_size (view s) (frame_of f) (queue-whole s h) k.waits) in
        take_at a (drop (0 + length a) o) (Bench.bytes_written n f) (sym w)
    at false p = rw p

-- what is printed and left, by the bytes that are shown
abbrev printed : (s f : List ℕ) → ℕ → List ℕ → Answer
printed s f n x = record { text = hex_of (n ∷ x) ++ (10 ∷ []); state = left_on s n (frame_of f) }

fit-said : (s f o : List ℕ) → state_bytes ≤ length s → length o ≡ 126 → Bench.answered f (replied_on s (frame_of f) o) ≡ Bench.answered f (replied_on s (frame_of f) Bench.blank)
unfolding replied_on told_on Bench.blank
fit-said s f o h e =
    let r : ℕ → ℕ = reply (holds (view s)) (frame_of f) in
    let a : List ℕ = answer (view s) (frame_of f) in
    ap (λ (m : ℕ). Bench.answered f (res (r m) (cond (eqb (r m) 0) (put o 0 a) o) (left_on s (r m) (frame_of f)))) e
    ∙ ap (printed s f (r 126)) (shown s f o h (r 126) refl ∙ sym (shown s f Bench.blank h (r 126) refl))

unfit : (s f o : List ℕ) → Bench.answered f (res 10 o s) ≡ Bench.answered f (res 10 Bench.blank s)
unfolding Bench.bytes_written
unfit s f o = refl

pub any_output : (s f o : List ℕ) → length o ≡ 126 → Bench.answered f (step_of s f o) ≡ Bench.answer_to s f
unfolding step_of
any_output s f o e = at (State.fit s) refl
  where
    at : (b : Bool) → State.fit s ≡ b
        → Bench.answered f (cond b (replied_on s (frame_of f) o) (res 10 o s)) ≡ Bench.answered f (cond b (replied_on s (frame_of f) Bench.blank) (res 10 Bench.blank s))
    at true p = fit-said s f o (fitting_true state_bytes controller_mark s p).whole e
    at false p = unfit s f o

-- ---- reader

unheard : (s f o : List ℕ) → Reader.answered f (res 25 o s) ≡ Reader.answered f (res 25 Reader.blank s)
unfolding Reader.handed
unheard s f o = refl

heard : (s f o : List ℕ) → Shelf.Fit s → length o ≡ 776
    → Reader.answered f (told_of (reader_step (reader_in s) f (length o)) o (received_on s f (length o)))
    ≡ Reader.answered f (told_of (reader_step (reader_in s) f (length Reader.blank)) Reader.blank (received_on s f (length Reader.blank)))
unfolding Reader.blank
heard s f o g e =
    let h : ReaderOutcome = reader_step (reader_in s) f 776 in
    let line : List ℕ → Answer = λ x. record { text = Reader.line_for h.reply x; state = received_on s f 776 } in
    ap (λ (m : ℕ). Reader.answered f (told_of (reader_step (reader_in s) f m) o (received_on s f m))) e
    ∙ ap line (front f h.out o h.reply (handed-listed s f g) ∙ sym (front f h.out Reader.blank h.reply (handed-listed s f g)))

pub any_room : (s f o : List ℕ) → length o ≡ 776 → Reader.answered f (read_of s f o) ≡ Reader.answer_to s f
unfolding read_of
any_room s f o e = at (Shelf.fit s) refl
  where
    at : (b : Bool) → Shelf.fit s ≡ b
        → Reader.answered f (cond b (told_of (reader_step (reader_in s) f (length o)) o (received_on s f (length o))) (res 25 o s))
        ≡ Reader.answered f (cond b (told_of (reader_step (reader_in s) f (length Reader.blank)) Reader.blank (received_on s f (length Reader.blank))) (res 25 Reader.blank s))
    at true p = heard s f o (fitting_true reader_bytes reader_mark s p) e
    at false p = unheard s f o
