-- `OpenLine::gather` meets its contract. Assumes nothing.
use Rattle.std.proofs.Common.{◌≡◌, sym, ap, ◌∙◌, ◌+◌, ◌-◌, ℕ, List, length, take, drop, length-drop, arith}
use Rattle.std.proofs.lemmas.List.{take_all}
use lib.Seq.{drop-drop}
use Rattle.lines.specs.Lines.{LineSoFar, scan, line_ended, partly}
use Rattle.hexline.specs.Open.{more_by}
use Rattle.hexline.proofs.HexLines.{scan-end, scan-ended, scan-first}
use Rattle.hexline.proofs.OpenLine.gather.Goals as goal

-- the rest of a chunk, as a slice
rest_is : (from : ℕ) (chunk : List ℕ) → take (length chunk - from) (drop from chunk) ≡ drop from chunk
rest_is from chunk =
    take_all (length chunk - from) (drop from chunk) (omega (arith, length-drop from chunk))

pub returns-then-n-rest-clause-chunk_after : goal.returns-then-n-rest-clause-chunk_after
returns-then-n-rest-clause-chunk_after g c =
    let a = c.args in
    let chunk = a.chunk.now in
    let b = c.before_line_feed-n in
    let rest = take (length chunk - a.from) (drop a.from chunk) in
    let e = rest_is a.from chunk in
    let l = more_by g.row.N a.self.now (take b.result rest) in
    let at : a.from + b.result + 1 ≡ a.from + (b.result + 1) = omega arith in
    ap (λ (x : LineSoFar). line_ended x (drop (a.from + b.result + 1) chunk)) c.append.ensures
    ∙ ap (line_ended l) (ap (λ (n : ℕ). drop n chunk) at ∙ sym (drop-drop (b.result + 1) a.from chunk) ∙ ap (drop (b.result + 1)) (sym e))
    ∙ sym (scan-first g.row.N a.self.now rest b.result b.ensures.before ∙ scan-ended g.row.N l rest b.result c.if-n-rest.true (b.ensures.found c.if-n-rest.true))
    ∙ ap (scan g.row.N a.self.now) e

pub returns-else-n-rest-clause-chunk_after : goal.returns-else-n-rest-clause-chunk_after
returns-else-n-rest-clause-chunk_after g c =
    let a = c.args in
    let chunk = a.chunk.now in
    let b = c.before_line_feed-n in
    let rest = take (length chunk - a.from) (drop a.from chunk) in
    ap partly c.append.ensures
    ∙ sym (scan-first g.row.N a.self.now rest b.result b.ensures.before ∙ scan-end g.row.N _ rest b.result c.if-n-rest.false)
    ∙ ap (scan g.row.N a.self.now) (rest_is a.from chunk)
