-- Lent bytes that hold a fresh reader, later bytes staying.
-- Assumes nothing.
use Rattle.std.specs.Prelude.{cond, List, ℕ, zero, suc, ◌-◌, leb, length}
use Rattle.paper.specs.Streams.{pieces}
use Rattle.lent.specs.Fitting.{blank_on}
use Rattle.lent.specs.Told.{Told, told}
use Rattle.shelf.specs.Layout.{reader_mark, streams, reader_bytes}
use Rattle.shelf.specs.Received.{recorded_on}

-- "A fresh record has last count 4095, the last place and no gathering": those of the streams below n. (Of no pieces there is no
-- last place: 0.)
unfoldable pub fresh_on : List ℕ → ℕ → List ℕ
fresh_on s zero = s
fresh_on s (suc t) = recorded_on (fresh_on s t) t 4095 (pieces t - 1) 0

unfoldable pub started_on : List ℕ → List ℕ
started_on s = fresh_on (blank_on reader_bytes reader_mark s) streams

-- "Starting looks at the buffer's length alone: it replies 0 with a fresh state, later bytes staying, or .. (the reader 25) with
-- nothing changed."
unfoldable pub start_of : List ℕ → Told
start_of s = cond (leb reader_bytes (length s)) (told 0 (started_on s)) (told 25 s)
