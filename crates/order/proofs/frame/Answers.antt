-- `order::frame` meets its contract.
-- Assumes nothing.
use mathlib.Core.Path.{◌≡◌}
use mathlib.Core.Bool.{false, ◌&&◌}
use native.Mathlib.Omega.{arith}
use Rattle.frames.specs.Meaning.{channel}
use Rattle.command.specs.Meaning.{asked}
use Rattle.paper.specs.Step.{queues, crowded}
use Rattle.machine.proofs.Past.{past-whole, noted-past}
use Rattle.order.proofs.CommandReply.{noted_waits}
use Rattle.paper.specs.Commands as Commands
use Rattle.paper.specs.Streams.{hk}
use Rattle.state.specs.View.{view}
use Rattle.machine.proofs.Sent.{free-room}
use Rattle.order.proofs.frame.Goals as goal

pub obey-requires : goal.obey-requires
obey-requires c =
    let s = c.args.s.now in
    let q = asked c.in-Ok.request in
    let free : (queues (Commands.request q) && crowded (view s) hk) ≡ false = rw (c.queues_packet.ensures, c.crowded.ensures) at c.if-queues_packet-crowded.false in
    rw c.note.ensures (past-whole (noted-past s _ _ _ c.requires.0) c.requires.0, λ t. omega (arith, noted_waits s c.requires.0 (channel c.args.side) c.get.result c.get-2.result, free-room s hk (rw t at free)))
