-- What comes of what a read brings, and what a whole run leaves.
-- Assumes nothing.
use Rattle.std.specs.Prelude.{◌≡◌, false, List, [], ℕ}
use Rattle.lines.specs.Lines.{LineSoFar, kept}
use Rattle.lines.specs.Talk.{Talk, talk, lastly}
use Rattle.programs.specs.Programs.{longest}
use Rattle.answering.specs.Machines.{answer_to, begun}
use Rattle.answering.specs.declared.Machine.{Machine}
use Rattle.incoming.specs.Brought.{Brought, input, the_end, failed, brings}

-- what comes of what a read brings, with the line l open and the state s: the text to be written, and the line and the state that are left
abbrev pub comes : Machine → Brought → LineSoFar → List ℕ → Talk
comes m (input i) l s = talk longest (answer_to m) [] l s i
comes m the_end l s =
    record { text = (lastly (answer_to m) l s).text; line = kept []; state = (lastly (answer_to m) l s).state }
comes m failed l s = record { text = []; line = l; state = s }

-- what a program has come to after an input, from its beginning on
abbrev pub after : Machine → List ℕ → Talk
after m i = talk longest (answer_to m) [] (kept []) (begun m) i

-- a run that left that state: what its reads brought, one behind the other, and how that ended
pub record Ran (m : Machine) (state : List ℕ) : Type 0 where
  pub all : List ℕ
  pub end : Brought
  pub over : brings end ≡ false
  pub left : state ≡ (comes m end (after m all).line (after m all).state).state
