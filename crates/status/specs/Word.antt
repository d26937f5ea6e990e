-- What a method of a status word's builder does, and what a word is built from besides the flags.
-- Assumes nothing.
use Rattle.std.specs.Prelude.{◌≡◌, Bool, ℕ, ◌+◌, ◌^◌, ◌<◌}
use Rattle.paper.specs.Mode.{Mode}
use Rattle.paper.specs.Status.{set, Shown}

-- one bit more, above all that are set already: the word r is w with its bit k, which weighs 2 ^ k, as the Bool says
pub record Set (w : ℕ) (on : Bool) (k r : ℕ) : Type 0 where
  pub word : r ≡ set k on w
  pub below : r < 2 ^ (k + 1)

-- what the controller itself puts into a word, from a call's arguments
abbrev pub shown : Bool → Mode → ℕ → Shown
shown impact mode commands = record { impact = impact; mode = mode; commands = commands }
