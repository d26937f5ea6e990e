-- `answering::answer_controller` meets its contract: the line written is that of the reply and of the bytes that the frame wrote,
-- whatever stood in the output. Assumes nothing.
use Prim.Native.Nat.{ℕ}
use mathlib.Core.Path.{ap, ◌∙◌}
use mathlib.Core.List.{List, [], ◌∷◌, ◌++◌}
use lib.ListN.{take}
use Rattle.lines.specs.Hex.{hex_of}
use Rattle.lent.specs.Told.{Res}
use Rattle.programs.specs.Bench.{answered, bytes_written}
use Rattle.programs.proofs.Output.{any_output}
use Rattle.lines.specs.Talk.{Answer}
use Rattle.answering.proofs.answer_controller.Goals as goal

pub returns-clause-text_after : goal.returns-clause-text_after
returns-clause-text_after g c =
    let a = c.args in
    let d = c.frame-outcome in
    let r = c.reply-reply in
    let front : List ℕ = a.text.now in
    c.put_line.ensures
    ∙ ap (λ (n : ℕ). front ++ (hex_of (r.result ∷ take n d.new.out) ++ (10 ∷ []))) c.bytes_written-n.ensures.value
    ∙ ap (λ (k : ℕ). front ++ (hex_of (k ∷ take (bytes_written k a.f.now) d.new.out) ++ (10 ∷ []))) r.ensures
    ∙ ap (λ (x : Res). front ++ (answered a.f.now x).text) d.ensures
    ∙ ap (λ (x : Answer). front ++ x.text) (any_output a.state.now a.f.now a.output.now c.requires.0)

pub returns-clause-state_after : goal.returns-clause-state_after
returns-clause-state_after g c =
    let a = c.args in
    ap (λ (x : Res). x.state) c.frame-outcome.ensures ∙ ap (λ (x : Answer). x.state) (any_output a.state.now a.f.now a.output.now c.requires.0)
