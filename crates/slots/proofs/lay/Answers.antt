-- `slots::lay` meets its contract: the tag and the 118 bytes behind it are one run.
-- Assumes nothing.
use mathlib.Core.Path.{◌≡◌, sym, ◌∙◌}
use native.Mathlib.Omega.{arith}
use lib.ListN.{length}
use Rattle.wire.specs.Wire.{bytes16, part}
use Rattle.wire.proofs.Runs.{length_part, put-append}
use Rattle.slots.proofs.lay.Goals as goal

pub returns : goal.returns
returns c =
    let a = c.args in
    let n : length (part a.packet.now a.from 118) ≡ 118 = length_part a.packet.now a.from 118 (omega arith) in
    c.copy_part.ensures
    ∙ rw (c.set.ensures, c.slot_at-at.ensures.0) (sym (put-append a.s.now _ (bytes16 a.tag) (part a.packet.now a.from 118) (omega arith)))
