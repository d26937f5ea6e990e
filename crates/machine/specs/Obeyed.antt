-- What an accepted command, and a refused one, do to the lent bytes.
-- Assumes nothing.
use Rattle.std.specs.Prelude.{List, [], ◌∷◌, ℕ, ◌%◌, get_or}
use Rattle.wire.specs.Wire.{be16, bytes16, put, raised_on}
use Rattle.paper.specs.Frames.{Channel}
use Rattle.paper.specs.Clock.{seconds}
use Rattle.paper.specs.Commands.{Request, clear, housekeeping, set_mode, Decoded, request, refusal}
use Rattle.paper.specs.Controller.{raised8}
use Rattle.state.specs.Layout.{time_at, further_at, commands_at, packets_at, errors_at, sequence_at}
use Rattle.machine.specs.Stores.{cleared_on}
use Rattle.machine.specs.Built.{housekept_on}
use Rattle.machine.specs.Entered.{entered_on}

-- counts, and the low bytes of sequence and id
unfoldable pub noted_on : List ℕ → Channel → ℕ → ℕ → List ℕ
noted_on s cc id sequence = put (raised_on (raised_on s (packets_at cc)) commands_at) sequence_at (sequence % 256 ∷ id % 256 ∷ [])

-- a refusal: packet count, error count, error code
unfoldable pub erred_on : List ℕ → Channel → ℕ → List ℕ
erred_on s cc n = put (raised_on s (packets_at cc)) errors_at (raised8 (get_or s errors_at 0) ∷ n ∷ [])

-- an entry by command abandons a running collection
unfoldable pub commanded_on : List ℕ → ℕ → List ℕ
commanded_on s value = entered_on (put s further_at (bytes16 0)) value (seconds (be16 s time_at))

unfoldable pub obeyed_on : List ℕ → Request → List ℕ
obeyed_on s (clear mask) = cleared_on s mask
obeyed_on s housekeeping = housekept_on s
obeyed_on s (set_mode value) = commanded_on s value

unfoldable pub performed_on : List ℕ → Decoded → List ℕ
performed_on s (request q) = obeyed_on s q
performed_on s (refusal n) = s
