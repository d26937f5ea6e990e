-- `joining::queue_pieces` meets its contract: at the loop's head, laying what is left gives what laying all gave at first.
-- Assumes nothing.
use Rattle.std.proofs.Common.{◌≡◌, ◌+◌, ◌-◌, ◌*◌, drop}
use Rattle.machine.specs.Stores.{laid}
use Rattle.streams.specs.Meaning.{number}
use Rattle.joining.proofs.queue_pieces.Given as goal

abbrev pub invariant-loop-j : goal.invariant-loop-j
invariant-loop-j l =
    laid l.s (l.first + l.waiting + l.j) (l.count + l.j) (number l.stream) (l.pieces - l.j) (drop (118 * l.j) l.packet)
    ≡ laid l.initial.s (l.first + l.waiting) l.count (number l.stream) l.pieces l.packet
