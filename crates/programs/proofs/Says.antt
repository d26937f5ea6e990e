-- What program reader prints is document 01's: of a packet the reply and the handed-out bytes of the reader that its state holds,
-- and so of any input those of its packets, from a fresh reader on. With bench's, the claim about both programs.
-- Assumes nothing.
use mathlib.Core.Path.{◌≡◌, refl, sym, ap, ◌∙◌}
use mathlib.Core.List.{List, [], ◌∷◌, ◌++◌, flatten}
use mathlib.Core.Logic.{inl, inr}
use Prim.Native.Nat.{ℕ, ◌+◌, ◌%◌, ◌≤◌}
use native.Mathlib.Omega.{arith}
use lib.ListN.{length, take, drop, replicate, length-replicate}
use lib.Seq.{take-append_seam}
use borrow.Author.Tests.{eq-eqb, ne_eqb, le-leb}
use Rattle.wire.specs.Wire.{be16, put}
use Rattle.lines.specs.Frames.{frames_of, EachOfBytes, answers}
use Rattle.lines.proofs.Frames.{spoken-answers, frames-of-bytes}
use Rattle.paper.specs.Reader.{Reader, ReaderOutcome, reader_start, reader_step}
use Rattle.paper.specs.Runs.{readings}
use Rattle.shelf.specs.View.{reader_in}
use Rattle.shelf.specs.Range.{Fit}
use Rattle.shelf.specs.Received.{read_of}
use Rattle.shelf.specs.Fresh.{start_of, started_on}
use Rattle.shelf.specs.Runs.{Agrees}
use Rattle.shelf.specs.Layout.{reader_mark, reader_bytes}
use Rattle.lent.proofs.Fitting.{true_fitting}
use Rattle.shelf.proofs.Handed.{Listed, handed-listed}
use Rattle.shelf.proofs.Fresh.{start-view, start-fit}
use Rattle.shelf.proofs.Steps.{steps}
use Rattle.programs.specs.Reader.{handed, line_for, blank, answer_to, begun}
use Rattle.programs.specs.Programs.{longest, reader}
use Rattle.programs.specs.Says.{reader_line, lines_of, lent, Says}
use Rattle.programs.proofs.Bench.{bench_says}

-- the front of an output that is printed is what was handed out
pub front : (f out room : List ℕ) (reply : ℕ) → Listed (be16 f 6 % 16) reply out → take (handed reply f) (put room 0 out) ≡ out
unfolding handed
front f out room reply (inl h) = rw (eq-eqb reply 1 h.0, ← h.1) (take-append_seam out (drop (0 + length out) room))
front f out room reply (inr h) = rw (ne_eqb reply 1 h.0) (sym h.1)

-- the text of a packet
pub packet_says : (s f : List ℕ) → Fit s
    → (answer_to s f).text ≡ reader_line ((reader_step (reader_in s) f 776).reply, (reader_step (reader_in s) f 776).out)
unfolding read_of blank
packet_says s f g =
    let h : ReaderOutcome = reader_step (reader_in s) f 776 in
    rw (true_fitting reader_bytes reader_mark s g) (ap (line_for h.reply) (front f h.out blank h.reply (handed-listed s f g)))

-- packets one after the other
packets_say : (fs : List (List ℕ)) (s : List ℕ) → Fit s → EachOfBytes fs
    → answers answer_to s fs ≡ lines_of reader_line (readings (reader_in s) (lent 776 fs))
unfolding answers readings flatten blank
packets_say [] s g b = refl
packets_say (f ∷ fs) s g b =
    let a : Agrees (read_of s f blank) (reader_step (reader_in s) f 776) blank s = steps s f blank g b.0 in
    let text = packet_says s f g in
    let rest =
    packets_say fs (read_of s f blank).state a.fits b.1
    ∙ ap (λ (r : Reader). lines_of reader_line (readings r (lent 776 fs))) a.held in
    λ i. text i ++ rest i

-- an input, from the start on
started : (s : List ℕ) → reader_bytes ≤ length s → (start_of s).state ≡ started_on s
unfolding start_of
started s h = rw (le-leb _ _ h)

started_say : (s : List ℕ) → reader_bytes ≤ length s → (fs : List (List ℕ)) → EachOfBytes fs
    → answers answer_to (start_of s).state fs ≡ lines_of reader_line (readings reader_start (lent 776 fs))
started_say s h fs b =
    ap (λ (x : List ℕ). answers answer_to x fs) (started s h)
    ∙ packets_say fs (started_on s) (start-fit s h) b
    ∙ ap (λ (r : Reader). lines_of reader_line (readings r (lent 776 fs))) (start-view s h)

pub reader_says : (input : List ℕ) → reader input ≡ lines_of reader_line (readings reader_start (lent 776 (frames_of longest input)))
unfolding reader begun
reader_says input =
    spoken-answers longest answer_to begun input
    ∙ started_say (replicate reader_bytes 0) (omega (arith, length-replicate {A = ℕ} reader_bytes 0)) (frames_of longest input) (frames-of-bytes longest input)

-- BOTH PROGRAMS PRINT WHAT DOCUMENT 01 SAYS, for any input
pub says : Says
says = record { bench_says = bench_says; reader_says = reader_says }
