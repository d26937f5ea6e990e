-- What entering a mode does to the lent bytes.
-- Assumes nothing.
use Rattle.std.specs.Prelude.{cond, List, [], ◌∷◌, ◌++◌, ℕ, ◌+◌, ◌%◌, eqb, get_or, replicate}
use Rattle.wire.specs.Wire.{bytes16, bytes24, put}
use Rattle.paper.specs.Clock.{now}
use Rattle.state.specs.Layout.{altitude_at, nibble_at, flag_at, window_at, ring_at}
use Rattle.state.specs.View.{nibble_in, clock_in}

-- 512 readings of zero
unfoldable pub no_ring : List ℕ
no_ring = replicate 1024 0

-- "empties window and ring and clears the impact flag"
unfoldable pub emptied_on : List ℕ → List ℕ
emptied_on s = put (put (put s flag_at (0 ∷ [])) window_at (0 ∷ [])) ring_at no_ring

-- the run that an entry stores: the mode with its lock, SSP time, the old mode, the altitude word, the reference second
abbrev pub entry_run : List ℕ → ℕ → ℕ → List ℕ
entry_run s nibble reference =
    (nibble ∷ bytes24 (now (clock_in s)))
    ++ (nibble_in s ∷ get_or s altitude_at 0 ∷ get_or s (altitude_at + 1) 0 ∷ bytes16 reference)

unfoldable pub entered_on : List ℕ → ℕ → ℕ → List ℕ
entered_on s nibble reference =
    cond (eqb (nibble % 8) 4) (emptied_on (put s nibble_at (entry_run s nibble reference)))
    (put s nibble_at (entry_run s nibble reference))
