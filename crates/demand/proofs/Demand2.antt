-- Demand 2 holds.
-- Assumes nothing.
use mathlib.Core.Path.{sym, subst}
use lib.ListN.{length}
use Rattle.paper.specs.Controller.{start}
use Rattle.paper.specs.Step.{step}
use Rattle.paper.specs.Reader.{reader_start, reader_step}
use Rattle.paper.specs.Runs.{runs, reads}
use Rattle.paper.specs.History.{history, sent_by, Counted}
use Rattle.state.specs.View.{view}
use Rattle.lent.specs.Calls.{calls}
use Rattle.machine.specs.Called.{step_of}
use Rattle.machine.specs.Runs.{Agrees, run_of}
use Rattle.machine.proofs.Steps.{started_steps, started_counts}
use Rattle.shelf.specs.Received.{read_of}
use Rattle.shelf.specs.Runs.{Agrees as ReaderAgrees, reads_of}
use Rattle.shelf.proofs.Runs.{started_steps as reader-steps}
use Rattle.lent.specs.Told.{Told}
use Rattle.demand.specs.Following.{Demand2}
use Rattle.demand.proofs.Demand1.{begun, reader-begun}

pub demand2 : Demand2
demand2 =
    record {
      steps = λ s h xs b f o c.
          subst
          (λ (t : Told). Agrees (step_of (run_of t.state xs) f o) (step (runs start (calls xs)) f (length o)) o)
          (sym (begun s h)) (started_steps s h xs b f o c);
      counts = λ s h xs b.
          subst
          (λ (t : Told). Counted (view (run_of t.state xs)) (history start (calls xs)) (sent_by start (calls xs)))
          (sym (begun s h)) (started_counts s h xs b);
      reads = λ s h xs b f o c.
          subst
          (λ (t : Told). ReaderAgrees (read_of (reads_of t.state xs) f o)
          (reader_step (reads reader_start (calls xs)) f (length o)) o (reads_of t.state xs))
          (sym (reader-begun s h)) (reader-steps s h xs b f o c);
    }
