-- What an accepted tick does to the lent bytes.
-- Assumes nothing.
use Rattle.std.specs.Prelude.{cond, not, ◌&&◌, List, [], ◌∷◌, ◌++◌, ℕ, ◌+◌, ◌*◌, ◌%◌, eqb, leb, get_or}
use Rattle.wire.specs.Wire.{be16, be24, bytes16, bytes24, put}
use Rattle.paper.specs.Clock.{ticked, now, seconds_of}
use Rattle.paper.specs.Impact.{above, declares}
use Rattle.paper.specs.Streams.{acc_i}
use Rattle.paper.specs.Packets.{mode_byte}
use Rattle.impact.specs.Window.{window_of, window_after}
use Rattle.state.specs.Layout.{m_at, flag_at, impact_time_at, window_at, oldest_at, further_at, ring_at}
use Rattle.state.specs.View.{nibble_in, window_in, oldest_in, clock_in}
use Rattle.machine.specs.Built.{impact_record_on}
use Rattle.machine.specs.Entered.{entered_on}

-- one more tick
unfoldable pub m_raised_on : List ℕ → List ℕ
m_raised_on s = put s m_at (bytes16 (ticked (be16 s m_at)))

-- a reading enters ring and window
unfoldable pub with_reading_on : List ℕ → ℕ → List ℕ
with_reading_on s r =
    put (put (put s (ring_at + 2 * oldest_in s) (bytes16 r)) window_at (window_after (window_in s) (above r) ∷ [])) oldest_at
    (bytes16 ((oldest_in s + 1) % 512))

-- impact is declared now
unfoldable pub declared_on : List ℕ → List ℕ
declared_on s = put (put s flag_at (1 ∷ (bytes24 (now (clock_in s)) ++ (mode_byte acc_i (nibble_in s) ∷ [])))) further_at (bytes16 1)

-- no collection runs: impact may be declared
unfoldable pub detected_on : List ℕ → List ℕ
detected_on s = cond (not (eqb (get_or s flag_at 0) 1) && declares (window_of (window_in s))) (declared_on s) s

-- a reading that completes nothing
unfoldable pub watched_on : List ℕ → List ℕ
watched_on s = cond (eqb (be16 s further_at) 0) (detected_on s) (put s further_at (bytes16 (be16 s further_at + 1)))

-- the record is complete: it is queued, and mode 5 entered if unlocked
unfoldable pub completed_on : List ℕ → List ℕ
completed_on s =
    cond (leb 8 (nibble_in s)) (impact_record_on (put s further_at (bytes16 0)))
    (entered_on (impact_record_on (put s further_at (bytes16 0))) 5 (seconds_of (be24 s impact_time_at)))

unfoldable pub ticked_on : List ℕ → ℕ → List ℕ
ticked_on s r =
    cond (eqb (nibble_in s % 8) 4)
    (cond (leb 448 (be16 s further_at)) (completed_on (with_reading_on (m_raised_on s) r)) (watched_on (with_reading_on (m_raised_on s) r)))
    (m_raised_on s)
