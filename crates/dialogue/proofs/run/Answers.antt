-- `dialogue::run` meets its contract. Assumes nothing.
use Rattle.std.proofs.Common.{sym, ◌∙◌}
use Rattle.incoming.specs.Brought.{brought, count_read}
use Rattle.dialogue.proofs.Talking.{reached_none, reached_more}
use Rattle.dialogue.proofs.run.Goals as goal

pub loop-init : goal.loop-init
loop-init g c =
    reached_none c.args.program.machine c.clear.new.self c.args.state.now c.clear.ensures c.requires.fresh

pub loop-preserved : goal.loop-preserved
loop-preserved g c =
    let l = c.loop in
    let g = c.heard-answered in
    let b = brought (count_read c.read-got.result) c.read-got.new.chunk in
    reached_more c.args.program.machine l.desk.line l.state g.new.desk.line g.new.state b g.result l.invariant g.ensures
    (sym (c.reads_on.ensures c.read-got.new.chunk) ∙ c.if-not-reads_on.false)
