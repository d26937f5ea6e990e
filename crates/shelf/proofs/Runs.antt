-- Calls one after the other on the reader's lent bytes, as document 01's reader sees them; and from a fresh start, where 25 never
-- comes. Assumes nothing.
use mathlib.Core.Path.{◌≡◌, refl, ap, ◌∙◌, subst}
use mathlib.Core.Bool.{true}
use mathlib.Core.List.{List, [], ◌∷◌}
use Prim.Native.Nat.{ℕ, ◌≤◌}
use lib.ListN.{length}
use Rattle.paper.specs.Reader.{Reader, reader_start, reader_step}
use Rattle.paper.specs.Runs.{reads, readings}
use Rattle.wire.specs.Wire.{Bytes}
use Rattle.lent.specs.Calls.{Framed, calls, fronts}
use Rattle.shelf.specs.Layout.{reader_mark, reader_bytes}
use Rattle.shelf.specs.View.{reader_in}
use Rattle.shelf.specs.Range.{Fit, fit}
use Rattle.shelf.specs.Received.{read_of}
use Rattle.shelf.specs.Fresh.{started_on}
use Rattle.shelf.specs.Runs.{Left, Agrees, reads_of, readings_of}
use Rattle.lent.proofs.Fitting.{true_fitting}
use Rattle.shelf.proofs.Fresh.{start-view, start-fit, start-length, start-past}
use Rattle.shelf.proofs.Steps.{steps}

pub runs-view : (xs : List (List ℕ × List ℕ)) (s : List ℕ) → Fit s → Framed xs
    → Left (reads_of s xs) s (reads (reader_in s) (calls xs))
unfolding reads_of reads
runs-view [] s g h = record { held = refl; fits = g; long = refl; past = refl }
runs-view (x ∷ xs) s g h =
    let a = steps s x.0 x.1 g h.0 in
    let rest = runs-view xs (read_of s x.0 x.1).state a.fits h.1 in
    record {
      held = rest.held ∙ ap (λ (r : Reader). reads r (calls xs)) a.held;
      fits = rest.fits;
      long = rest.long ∙ a.long;
      past = rest.past ∙ a.past;
    }

pub runs-readings : (xs : List (List ℕ × List ℕ)) (s : List ℕ) → Fit s → Framed xs
    → readings_of s xs ≡ fronts xs (readings (reader_in s) (calls xs))
unfolding readings_of readings
runs-readings [] s g h = refl
runs-readings (x ∷ xs) s g h =
    let a = steps s x.0 x.1 g h.0 in
    let rest : readings_of (read_of s x.0 x.1).state xs
    ≡ fronts xs (readings (reader_step (reader_in s) x.0 (length x.1)).next (calls xs)) =
    runs-readings xs (read_of s x.0 x.1).state a.fits h.1
    ∙ ap (λ (r : Reader). fronts xs (readings r (calls xs))) a.held in
    λ i. (a.reply i, a.out i) ∷ rest i

-- "25 lent state unfit, as 10", which "never meets a state made by starting and later calls": such bytes hold document 01's reader
-- after the same calls, and fit; and so a further call tells what the paper's step does.
module _ (s : List ℕ) (whole : reader_bytes ≤ length s) (xs : List (List ℕ × List ℕ)) (h : Framed xs) where
  pub started_runs : Left (reads_of (started_on s) xs) s (reads reader_start (calls xs))
  started_runs =
      let l = runs-view xs (started_on s) (start-fit s whole) h in
      record {
        held = l.held ∙ ap (λ (r : Reader). reads r (calls xs)) (start-view s whole);
        fits = l.fits;
        long = l.long ∙ start-length s whole;
        past = l.past ∙ start-past s whole;
      }

  pub started_readings : readings_of (started_on s) xs ≡ fronts xs (readings reader_start (calls xs))
  started_readings =
      runs-readings xs (started_on s) (start-fit s whole) h
      ∙ ap (λ (r : Reader). fronts xs (readings r (calls xs))) (start-view s whole)

  pub never_25 : fit (reads_of (started_on s) xs) ≡ true
  never_25 = true_fitting reader_bytes reader_mark (reads_of (started_on s) xs) started_runs.fits

  pub started_steps : (f o : List ℕ) → Bytes f
      → Agrees (read_of (reads_of (started_on s) xs) f o) (reader_step (reads reader_start (calls xs)) f (length o)) o
      (reads_of (started_on s) xs)
  started_steps f o b =
      subst
      (λ (r : Reader). Agrees (read_of (reads_of (started_on s) xs) f o) (reader_step r f (length o)) o (reads_of (started_on s) xs))
      started_runs.held (steps (reads_of (started_on s) xs) f o started_runs.fits b)
