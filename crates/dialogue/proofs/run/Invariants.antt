-- The loop of `dialogue::run`: the line open and the state are those that the reads so far leave.
use Rattle.dialogue.proofs.Talking.{Reached}
use Rattle.dialogue.proofs.run.Given as goal

abbrev pub invariant-loop : goal.invariant-loop
invariant-loop g l = Reached l.program.machine l.desk.line l.state
