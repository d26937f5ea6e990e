-- What an accepted broadcast does to the lent bytes.
-- Assumes nothing.
use Rattle.std.specs.Prelude.{cond, List, [], ◌∷◌, ◌++◌, ℕ}
use Rattle.wire.specs.Wire.{be16, bytes16, put, raised_on}
use Rattle.paper.specs.Frames.{Channel}
use Rattle.paper.specs.Clock.{seconds}
use Rattle.paper.specs.Mode.{nibble, same, ruled, Seen}
use Rattle.paper.specs.Impact.{collects}
use Rattle.state.specs.Layout.{time_at, altitude_at, broadcasts_at}
use Rattle.state.specs.View.{standing_in, collection_of, further_in}
use Rattle.machine.specs.Entered.{entered_on}

-- its count is raised, its words are stored, m is 0
unfoldable pub heard_on : List ℕ → Channel → ℕ → ℕ → ℕ → ℕ → List ℕ
heard_on s cc time altitude spin phase =
    put (raised_on s (broadcasts_at cc)) time_at (bytes16 time ++ (bytes16 altitude ++ (spin ∷ phase ∷ 0 ∷ 0 ∷ [])))

-- what the mode rule looks at
abbrev pub seen_in : List ℕ → Seen
seen_in s =
    record {
      t = seconds (be16 s time_at);
      altitude = be16 s altitude_at;
      collecting = collects (collection_of (further_in s));
    }

-- the mode rule, and the entry where it changes the mode
unfoldable pub moved_on : List ℕ → List ℕ
moved_on s =
    cond (same (ruled (standing_in s) (seen_in s)) (standing_in s).mode) s
    (entered_on s (nibble (ruled (standing_in s) (seen_in s)) (standing_in s).locked) (seconds (be16 s time_at)))
