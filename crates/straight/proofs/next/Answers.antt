-- `straight::next` meets its contract: a scan of the chunk takes the digits of a line that stands whole for the line. Assumes nothing.
use Rattle.std.proofs.Common.{sym, ap, ◌∙◌, ◌*◌, take, drop, arith}
use Rattle.lines.specs.Lines.{LineSoFar, kept, scan, bytes_or}
use Rattle.straight.proofs.Ends.{reading-ended}
use Rattle.straight.proofs.next.Goals as goal

pub returns-in-Some-clause-found_in : goal.returns-in-Some-clause-found_in
returns-in-Some-clause-found_in g c =
    let a = c.args in
    let s = c.in-Some.size in
    let w = c.in-Some.ensures in
    let m = g.row.N in
    let l = take (2 * s) (drop a.from a.chunk.now) in
    record {
      whole = kept l;
      met = reading-ended m a.from s a.chunk.now c.whole.new.frame w.reading (omega (arith, w.reading.short, c.whole.auto.frame)) w.more w.feed
          ∙ ap (λ (x : LineSoFar). scan m x (drop a.from a.chunk.now)) (sym w.none);
      frame = sym (ap bytes_or w.reading.read);
      none = w.none;
    }
