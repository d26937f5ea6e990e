-- `controller::frame` meets its contract.
-- Assumes nothing.
use mathlib.Core.Path.{sym, ap, ◌∙◌}
use mathlib.Core.List.{List}
use Prim.Native.Nat.{ℕ}
use borrow.Author.Tests.{lt-ltb}
use Rattle.paper.specs.Frames.{frame_of}
use Rattle.paper.specs.Step.{reply}
use Rattle.lent.specs.Told.{res}
use Rattle.lent.proofs.Fitting.{fitting_true}
use Rattle.state.specs.Layout.{controller_mark, state_bytes}
use Rattle.machine.specs.Called.{left_on, told_on, replied_on, step_of}
use Rattle.machine.proofs.Joins.{short-stays}
use Rattle.controller.proofs.frame.Goals as goal

pub returns-then-out-lt-PACKET_BYTES : goal.returns-then-out-lt-PACKET_BYTES
unfolding step_of replied_on told_on left_on reply
returns-then-out-lt-PACKET_BYTES c =
    rw (sym c.fits.ensures ∙ c.if-not-fits.false, lt-ltb _ _ c.if-out-lt-PACKET_BYTES.true) (ap (λ (l : List ℕ). res 8 c.args.out.now l) (short-stays c.args.s.now (frame_of c.args.f.now)))

pub handle-requires : goal.handle-requires
handle-requires c =
    ((fitting_true state_bytes controller_mark c.args.s.now (sym c.fits.ensures ∙ c.if-not-fits.false)).whole, c.parse.ensures.1, c.if-out-lt-PACKET_BYTES.false)
