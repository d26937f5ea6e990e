-- `Desk::one` meets its contract: a line that ended is answered and the next begins, else the line stays open. Assumes nothing.
use Rattle.std.proofs.Common.{ap, ◌∙◌, ℕ, List, ◌++◌, length, drop, arith}
use Rattle.std.proofs.Math.ListN.{drop_of_length-le}
use Rattle.lines.specs.Lines.{LineSoFar}
use Rattle.lines.specs.Talk.{talk}
use Rattle.lines.proofs.Talk.{turn_ended, turn_partly}
use Rattle.programs.specs.Programs.{longest}
use Rattle.answering.specs.Machines.{answer_to}
use Rattle.session.proofs.Desk.one.Goals as goal

pub returns-in_default-clause-goes_on : goal.returns-in_default-clause-goes_on
returns-in_default-clause-goes_on g c =
    let a = c.args in
    turn_partly longest (answer_to a.machine) a.text.now a.self.now.line c.next-found.new.line a.state.now
    (drop (length a.chunk.now) a.chunk.now) (drop a.from a.chunk.now) c.in_default.ensures.found_in
    (drop_of_length-le a.chunk.now {i = length a.chunk.now} (omega arith))

pub returns-clause-goes_on : goal.returns-clause-goes_on
returns-clause-goes_on g c =
    let a = c.args in
    let way = answer_to a.machine in
    let r = c.in-Some in
    let w = c.answer.ensures in
    let found = r.ensures.found_in in
    ap (λ (x : LineSoFar). talk longest way c.answer.new.text x c.answer.new.state (drop r.field-0.at a.chunk.now)) found.none
    ∙ turn_ended longest way a.text.now c.answer.new.text a.self.now.line found.whole a.state.now c.answer.new.state
    (drop r.field-0.at a.chunk.now) (drop a.from a.chunk.now) found.met
    (w.text_after ∙ ap (λ (x : List ℕ). a.text.now ++ (way a.state.now x).text) found.frame)
    (w.state_after ∙ ap (λ (x : List ℕ). (way a.state.now x).state) found.frame)
