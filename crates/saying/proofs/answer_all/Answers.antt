-- `saying::answer_all` meets its contract. Assumes nothing.
use Rattle.std.proofs.Common.{◌≡◌, sym, ap, ◌∙◌, ◌<◌, List, [], ◌++◌, ℕ, length, length-append, drop, arith}
use Rattle.std.proofs.Math.ListN.{drop_of_length-le}
use Rattle.lines.specs.Talk.{Talk, talk}
use Rattle.programs.specs.Programs.{longest}
use Rattle.answering.specs.Machines.{answer_to}
use Rattle.saying.proofs.Parts.{next-part, written-first}
use Rattle.saying.proofs.answer_all.Goals as goal

pub returns-then-took-due : goal.returns-then-took-due
returns-then-took-due g c =
    let a = c.args in
    let f = c.fill-at in
    let l = c.loop-at in
    let way = answer_to a.program.machine in
    let part = f.new.text in
    let sofar = l.invariant.sofar in
    let k : Talk = talk longest way [] a.desk.now.line a.state.now a.chunk.now in
    let more = next-part way sofar.text part l.desk.line f.new.self.line l.state f.new.state (drop l.at a.chunk.now) (drop f.result a.chunk.now) f.ensures.goes_on ∙ sofar.rest in
    let most = written-first way (sofar.text ++ part) f.new.self.line f.new.state (drop f.result a.chunk.now) k more in
    omega (arith, most, length-append sofar.text part, sofar.count, ap length c.as_bytes-due.ensures.text, c.if-took-due.true)

pub loop-at-preserved : goal.loop-at-preserved
loop-at-preserved g c =
    let a = c.args in
    let f = c.fill-at in
    let l = c.loop-at in
    let way = answer_to a.program.machine in
    let part = f.new.text in
    let e = ap length c.as_bytes-due.ensures.text in
    let m : l.at < f.result = f.ensures.within.onward c.loop-at-test.true in
    let sofar = l.invariant.sofar in
    record {
      within = f.ensures.within.at_most;
      few = omega (arith, c.say-took.ensures, e, c.as_bytes-due.ensures.size, l.invariant.few, m);
      sofar =
          record {
            text = sofar.text ++ part;
            count = omega (arith, length-append sofar.text part, sofar.count, e, c.say-took.ensures, c.if-took-due.false);
            rest = next-part way sofar.text part l.desk.line f.new.self.line l.state f.new.state (drop l.at a.chunk.now) (drop f.result a.chunk.now) f.ensures.goes_on ∙ sofar.rest;
          };
    }

pub returns : goal.returns
unfolding talk
returns g c =
    let a = c.args in
    let l = c.loop-at in
    let way = answer_to a.program.machine in
    let sofar = l.invariant.sofar in
    let none : drop l.at a.chunk.now ≡ [] = drop_of_length-le a.chunk.now {i = l.at} c.loop-at-test.false in
    let same = ap (λ (x : List ℕ). talk longest way sofar.text l.desk.line l.state x) (sym none) ∙ sofar.rest in
    record {
      line_left = ap (λ (k : Talk). k.line) same;
      state_left = ap (λ (k : Talk). k.state) same;
      all_said = sym sofar.count ∙ ap (λ (k : Talk). length k.text) same;
    }
