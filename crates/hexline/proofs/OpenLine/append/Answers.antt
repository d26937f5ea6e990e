-- `OpenLine::append` meets its contract. Assumes nothing.
use Rattle.std.proofs.Common.{ap, ◌∙◌, ◌+◌, ◌++◌, List, ℕ, length, take, arith}
use Rattle.std.proofs.lemmas.Slice.{take-put_mid}
use Rattle.lines.specs.Lines.{LineSoFar}
use Rattle.hexline.specs.Open.{more_by}
use Rattle.hexline.proofs.HexLines.{line_of-fits, line_of-long}
use Rattle.hexline.proofs.OpenLine.append.Goals as goal

pub returns-then-n-s : goal.returns-then-n-s
returns-then-n-s g c =
    let o = c.self.inside in
    let s = c.args.s.now in
    line_of-fits g.row.N o.count o.characters s _ (omega (arith, c.self.told)) c.if-n-s.true
    (take-put_mid o.count _ o.characters _ (o.count + length s) (omega arith) (omega arith) ∙ ap (λ (x : List ℕ). take o.count o.characters ++ x) c.copy_from_slice.ensures.after)
    ∙ ap (λ (x : LineSoFar). more_by g.row.N x s) c.self.view_is

pub returns-else-n-s : goal.returns-else-n-s
returns-else-n-s g c =
    let o = c.self.inside in
    let s = c.args.s.now in
    line_of-long g.row.N o.count o.characters s o.characters (omega (arith, c.self.told)) c.if-n-s.false
    ∙ ap (λ (x : LineSoFar). more_by g.row.N x s) c.self.view_is
