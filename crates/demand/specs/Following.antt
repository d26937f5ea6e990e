-- Demand 2: "The controller does what document 01 says, frame by frame: mode, impact, counts, both status words, every packet byte.
-- The reader recovers exactly the datastream packets those bytes carry."
--
-- Lent bytes are started and then called with any frames and outputs; the paper's controller is started and hears the same frames. A
-- further call gives the paper's reply, the paper's bytes at the output's front with the rest as it was, and leaves bytes that hold
-- the paper's controller, that is its mode, its impact record, its counts, its open and waiting packets. So does the reader's.
-- Which packets it recovers is said by demand 3, from the same two machines. (`Bytes` and `Framed`: frames are of bytes, as Lib says.)
-- Assumes nothing.
use Rattle.std.specs.Prelude.{List, ℕ, ◌≤◌, length}
use Rattle.paper.specs.Controller.{start}
use Rattle.paper.specs.Step.{step}
use Rattle.paper.specs.Reader.{reader_start, reader_step}
use Rattle.paper.specs.Runs.{runs, reads}
use Rattle.paper.specs.History.{history, sent_by, Counted}
use Rattle.state.specs.Layout.{state_bytes}
use Rattle.state.specs.View.{view}
use Rattle.wire.specs.Wire.{Bytes}
use Rattle.lent.specs.Calls.{Framed, calls}
use Rattle.machine.specs.Called.{step_of, start_of}
use Rattle.machine.specs.Runs.{Agrees, run_of}
use Rattle.shelf.specs.Layout.{reader_bytes}
use Rattle.shelf.specs.Fresh.{start_of as start_reader}
use Rattle.shelf.specs.Received.{read_of}
use Rattle.shelf.specs.Runs.{Agrees as ReaderAgrees, reads_of}

pub record Demand2 : Type 0 where
  pub steps : (s : List ℕ) → state_bytes ≤ length s → (xs : List (List ℕ × List ℕ)) → Framed xs → (f o : List ℕ) → Bytes f
      → Agrees (step_of (run_of (start_of s).state xs) f o) (step (runs start (calls xs)) f (length o)) o
  pub counts : (s : List ℕ) → state_bytes ≤ length s → (xs : List (List ℕ × List ℕ)) → Framed xs
      → Counted (view (run_of (start_of s).state xs)) (history start (calls xs)) (sent_by start (calls xs))
  pub reads : (s : List ℕ) → reader_bytes ≤ length s → (xs : List (List ℕ × List ℕ)) → Framed xs → (f o : List ℕ) → Bytes f
      → let left : List ℕ = reads_of (start_reader s).state xs in
      ReaderAgrees (read_of left f o) (reader_step (reads reader_start (calls xs)) f (length o)) o left
