-- `dialogue::heard` meets its contract: what is answered gives what comes of what the read brought. Assumes nothing.
use Rattle.std.proofs.Common.{ap, ◌∙◌, List, [], ℕ, subst}
use Rattle.lines.specs.Talk.{Talk, talk}
use Rattle.programs.specs.Programs.{longest}
use Rattle.answering.specs.Machines.{answer_to}
use Rattle.incoming.specs.Brought.{brought, count_read, fed}
use Rattle.saying.specs.Served.{Served}
use Rattle.dialogue.proofs.Talking.{fed-comes}
use Rattle.dialogue.proofs.heard.Goals as goal

pub returns : goal.returns
returns g c =
    let a = c.args in
    let i = c.input_of-k in
    let w = c.answer_all in
    let b = brought (count_read a.got) a.chunk.now in
    let l = a.desk.now.line in
    let n = c.count.result in
    let same = ap (λ (x : List ℕ). talk longest (answer_to a.program.machine) [] l a.state.now x) (i.ensures.chunk_after ∙ ap (λ (x : ℕ). fed x b) c.count.ensures.value) ∙ fed-comes a.program.machine l a.state.now b in
    subst (λ (k : Talk). Served k w.new.desk.line w.new.state w.result) same w.ensures
