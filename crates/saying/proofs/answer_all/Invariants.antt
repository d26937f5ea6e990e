-- The loop of `saying::answer_all`: the output took a text of that many bytes, and what is still to come behind it is what was to
-- come of the chunk. The measure is what is left of the chunk.
use Rattle.std.proofs.Common.{◌≤◌, ◌-◌, ◌*◌, [], length}
use Rattle.lines.specs.Talk.{talk}
use Rattle.programs.specs.Programs.{longest}
use Rattle.answering.specs.Machines.{answer_to}
use Rattle.saying.proofs.Parts.{SoFar}
use Rattle.saying.proofs.answer_all.Given as goal

abbrev pub invariant-loop-at : goal.invariant-loop-at
invariant-loop-at g l = record {
  within : l.at ≤ length l.chunk;
  few : l.said ≤ 65536 * l.at;
  sofar : SoFar l.program.machine (talk longest (answer_to l.program.machine) [] l.initial.desk.line l.initial.state l.chunk) l.at l.said l.chunk l.desk.line l.state;
}

abbrev pub decreases-loop-at : goal.decreases-loop-at
decreases-loop-at g l = length l.chunk - l.at
