-- Document 01, "Impact", and the manual's 5.1.5: readings, the window of five comparisons, the ring of 512 readings.
-- Assumes nothing.
use Rattle.std.specs.Prelude.{Bool, true, false, cond, List, [], ◌∷◌, ◌++◌, ℕ, ◌+◌, ltb, leb, take, drop, replicate, ℤ, pos, ◌-ℤ◌}
use Rattle.std.specs.Int.Signed.{lt_z}

-- "A reading of 2048 or more stands for itself minus 4096 (ours)."
unfoldable pub signed : ℕ → ℤ
signed r = cond (ltb r 2048) (pos r) (pos r -ℤ pos 4096)

-- "above means signed reading > 80"
unfoldable pub above : ℕ → Bool
above r = lt_z (pos 80) (signed r)

-- "The last five comparisons are five bits": newest first; "missing ones are not above".
abbrev pub no_comparison : List Bool
no_comparison = replicate 5 false

abbrev pub compared : Bool → List Bool → List Bool
compared b w = b ∷ take 4 w

-- "and their ones are counted"
abbrev pub ones : List Bool → ℕ
ones [] = 0
ones (b ∷ bs) = cond b 1 0 + ones bs

-- "At three, impact is declared"
abbrev pub declares : List Bool → Bool
declares w = leb 3 (ones w)

-- "each reading enters a ring of 512, whose missing oldest places are zero": oldest first.
abbrev pub no_reading : List ℕ
no_reading = replicate 512 0

abbrev pub rung : ℕ → List ℕ → List ℕ
rung r ring = drop 1 ring ++ (r ∷ [])

-- The collection of an impact record: none runs, or one that has had so many further ticks.
pub data Collection : Type 0 where
  idle : Collection
  running : ℕ → Collection

abbrev pub collects : Collection → Bool
collects idle = false
collects (running k) = true

-- What a packet's header says: SSP time, and the mode byte.
pub record Stamp : Type 0 where
  pub time : ℕ
  pub mode : ℕ

-- The impact flag; SSP time and mode at the impact tick; the window, the ring, the collection.
pub record Impact : Type 0 where
  pub flag : Bool
  pub stamp : Stamp
  pub window : List Bool
  pub ring : List ℕ
  pub collection : Collection
