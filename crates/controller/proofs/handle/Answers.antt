-- `controller::handle` meets its contract.
-- Assumes nothing.
use mathlib.Core.Path.{◌≡◌, refl, ◌∙◌}
use native.Mathlib.Omega.{arith}
use lib.ListN.{length, drop, length-drop}
use Rattle.paper.specs.Frames.{analogue, faulty}
use Rattle.paper.specs.Acts.{answer}
use Rattle.paper.specs.Step.{reply}
use Rattle.machine.specs.Called.{acted_on, refused_on, left_on, told_on}
use Rattle.machine.proofs.Joins.{quiet, housed-bytes}
use Rattle.controller.proofs.handle.Goals as goal

pub returns-in-Broadcast : goal.returns-in-Broadcast
unfolding answer
returns-in-Broadcast c =
    rw c.in-Broadcast.is (quiet c.args.s.now c.args.out.now c.requires.2 _ refl _ _ c.frame.ensures)

pub returns-in-Command : goal.returns-in-Command
unfolding answer
returns-in-Command c =
    rw c.in-Command.is (quiet c.args.s.now c.args.out.now c.requires.2 _ refl _ _ c.frame-in-Command.ensures)

pub returns-in-Tick : goal.returns-in-Tick
unfolding answer
returns-in-Tick c =
    rw c.in-Tick.is (quiet c.args.s.now c.args.out.now c.requires.2 _ refl _ _ c.frame-in-Tick.ensures)

pub returns-in-Sample : goal.returns-in-Sample
unfolding answer
returns-in-Sample c =
    rw c.in-Sample.is (quiet c.args.s.now c.args.out.now c.requires.2 _ refl _ _ c.frame-in-Sample.ensures)

pub returns-in-Analogue : goal.returns-in-Analogue
unfolding answer reply told_on left_on acted_on
returns-in-Analogue c =
    let f = c.args.f.now in
    let long : length f ≡ 59 = rw c.in-Analogue.is at c.requires.1 in
    let rest : length (drop 1 f) ≡ 58 = length-drop 1 f ∙ omega (arith, long) in
    rw (c.in-Analogue.is, c.house.ensures, housed-bytes f (omega (arith, rest))) (quiet c.args.s.now c.args.out.now c.requires.2 (analogue (drop 1 f)) refl _ _ refl)

pub returns-in-Faulty : goal.returns-in-Faulty
unfolding answer reply told_on left_on refused_on
returns-in-Faulty c =
    rw c.in-Faulty.is (quiet c.args.s.now c.args.out.now c.requires.2 faulty refl _ _ refl)
