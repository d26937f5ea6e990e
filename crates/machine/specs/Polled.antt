-- What an accepted poll does to the lent bytes.
-- Assumes nothing.
use Rattle.std.specs.Prelude.{List, ℕ}
use Rattle.wire.specs.Wire.{raised_on}
use Rattle.paper.specs.Frames.{Channel}
use Rattle.state.specs.Layout.{telemetry_at}
use Rattle.machine.specs.Stores.{dropped_on}

-- the first piece is gone, and the channel's telemetry count is raised
unfoldable pub poll_answered_on : List ℕ → Channel → List ℕ
poll_answered_on s cc = raised_on (dropped_on s) (telemetry_at cc)
