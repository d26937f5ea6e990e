-- An accepted poll: what the bytes hold afterwards is document 01's controller without the first piece, its count raised.
-- Assumes nothing.
use mathlib.Core.Path.{◌≡◌, ap, ◌∙◌}
use mathlib.Core.List.{List}
use Prim.Native.Nat.{ℕ, ◌+◌, ◌-◌, ◌<◌}
use Rattle.paper.specs.Frames.{Channel}
use Rattle.paper.specs.Controller.{raised_at, with_telemetry, Controller, with_tallies}
use Rattle.paper.specs.Acts.{poll_answered, poll_answered_from}
use Rattle.state.specs.View.{first_in, waiting_in, piece_in, pieces_in, view}
use Rattle.state.specs.Range.{Whole}
use Rattle.machine.specs.Stores.{dropped_on}
use Rattle.machine.specs.Polled.{poll_answered_on}
use Rattle.machine.proofs.Past.{past-whole, dropped_past}
use Rattle.machine.proofs.Queue.{waits_first, dropped_view}
use Rattle.machine.proofs.Counts.{telemetry-view}

-- a channel's telemetry count raised
abbrev raised_in : Controller → Channel → Controller
raised_in c cc = with_tallies c (with_telemetry c.tallies (raised_at cc c.tallies.telemetry))

pub polled-view : (s : List ℕ) (cc : Channel) → Whole s → 0 < waiting_in s
    → view (poll_answered_on s cc) ≡ poll_answered_from (view s) cc (view s).streams.queue
unfolding poll_answered_on poll_answered_from poll_answered
polled-view s cc w some =
    let e = waits_first s w some in
    telemetry-view (dropped_on s) (past-whole (dropped_past s w) w) cc
    ∙ ap (λ (c : Controller). raised_in c cc) (dropped_view s w (piece_in s (first_in s)) (pieces_in s (first_in s + 1) (waiting_in s - 1)) e)
    ∙ rw e
