-- `answering::answer_reader` meets its contract: the line written is that of the reply and of the bytes that are handed out, since the
-- contract of `gather::packet` says which they are, whatever stood in the output. Assumes nothing.
use Prim.Native.Nat.{ℕ}
use mathlib.Core.Path.{sym, ap, ◌∙◌}
use mathlib.Core.List.{List, ◌++◌}
use native.Mathlib.Omega.{arith}
use lib.ListN.{take}
use lib.Seq.{length-take-le}
use Rattle.lent.specs.Told.{Res}
use Rattle.programs.specs.Reader.{line_for, answered, handed}
use Rattle.programs.proofs.Output.{any_room}
use Rattle.lines.specs.Talk.{Answer}
use Rattle.answering.proofs.Replied.{replied}
use Rattle.answering.proofs.answer_reader.Goals as goal

pub handed-n-requires : goal.handed-n-requires
handed-n-requires g c =
    λ e. (replied c.args.state.now c.args.f.now _ _ c.packet-outcome.ensures).whole (sym c.reply-reply.ensures ∙ e)

pub put_heard-requires : goal.put_heard-requires
put_heard-requires g c =
    let t = replied c.args.state.now c.args.f.now _ _ c.packet-outcome.ensures in
    omega (arith, t.small, c.reply-reply.ensures, length-take-le {A = ℕ})

pub returns-clause-text_after : goal.returns-clause-text_after
returns-clause-text_after g c =
    let a = c.args in
    let d = c.packet-outcome in
    let r = c.reply-reply in
    let front : List ℕ = a.text.now in
    c.put_heard.ensures
    ∙ ap (λ (n : ℕ). front ++ line_for r.result (take n d.new.out)) c.handed-n.ensures.value
    ∙ ap (λ (k : ℕ). front ++ line_for k (take (handed k a.f.now) d.new.out)) r.ensures
    ∙ ap (λ (x : Res). front ++ (answered a.f.now x).text) d.ensures
    ∙ ap (λ (x : Answer). front ++ x.text) (any_room a.state.now a.f.now a.output.now c.requires.0)

pub returns-clause-state_after : goal.returns-clause-state_after
returns-clause-state_after g c =
    let a = c.args in
    ap (λ (x : Res). x.state) c.packet-outcome.ensures ∙ ap (λ (x : Answer). x.state) (any_room a.state.now a.f.now a.output.now c.requires.0)
