-- `joining::queue_pieces` meets its contract: after the loop, all pieces are laid.
-- Assumes nothing.
use Rattle.std.proofs.Common.{◌≡◌, ◌+◌, ◌-◌, ◌∙◌, refl, arith}
use Rattle.joining.proofs.Steps.{queued_end}
use Rattle.machine.specs.Stores.{laid}
use Rattle.streams.specs.Meaning.{number}
use Rattle.joining.proofs.queue_pieces.Goals as goal

pub returns : goal.returns
unfolding laid
returns c =
    let a = c.args in
    let first = c.first-first in
    let waiting = c.waiting-waiting in
    let count = c.get-count in
    let at = c.count_at-at in
    let none : a.pieces - c.loop-j.j ≡ 0 = omega arith in
    let done : c.loop-j.s ≡ laid a.s.now (first.result + waiting.result) count.result (number a.stream) a.pieces a.packet.now =
    rw none at c.loop-j.invariant in
    c.set-2.ensures
    ∙ rw c.set.ensures
    (queued_end a.s.now (number a.stream) a.pieces a.packet.now c.loop-j.s first.result waiting.result count.result
    at.result _ done first.ensures.0 waiting.ensures.0 count.ensures (rw c.from.ensures at at.ensures.0) refl)
