-- `answering::answer` meets its contract: an output of 776 bytes has the 126 of the controller's output. Assumes nothing.
use Rattle.std.proofs.Common.{rules}
use mathlib.Core.Path.{sym}
use native.Mathlib.Omega.{arith}
use lib.Seq.{length-take-le}
use Rattle.answering.proofs.answer.Goals as goal

pub slice_bounds-answer_controller-end-in-Controller : goal.slice_bounds-answer_controller-end-in-Controller
slice_bounds-answer_controller-end-in-Controller g c =
    sym (length-take-le 126 c.args.output.now (omega (arith, c.requires.0)))

pub answer_controller-requires : goal.answer_controller-requires
answer_controller-requires g c =
    (search rules, (length-take-le 126 c.args.output.now (omega (arith, c.requires.0)), c.requires.1))
