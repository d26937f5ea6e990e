-- The loop of `Desk::fill`: what is to come from here is what was to come at the start. The measure is what is left of the chunk.
use Rattle.std.proofs.Common.{◌≡◌, ◌≤◌, ◌-◌, [], length}
use Rattle.session.specs.Turns.{GoesOn}
use Rattle.session.proofs.Desk.fill.Given as goal

abbrev pub invariant-loop-at : goal.invariant-loop-at
invariant-loop-at g l = record {
  within : l.at ≤ length l.chunk;
  forth : l.from ≤ l.at;
  none : l.at ≡ l.from → length l.text ≡ 0;
  goes_on : GoesOn l.machine l.from l.at l.chunk [] l.initial.self.line l.initial.state l.text l.self.line l.state;
}

abbrev pub decreases-loop-at : goal.decreases-loop-at
decreases-loop-at g l = length l.chunk - l.at
