-- `answer::show` meets its contract.
-- Assumes nothing.
use mathlib.Core.Path.{◌≡◌, ◌∙◌}
use Prim.Native.Nat.{◌+◌, ◌/◌, ◌%◌}
use native.Mathlib.Omega.{arith}
use Rattle.frames.specs.Meaning.{channel}
use Rattle.answer.proofs.Shown.{shows}
use Rattle.answer.proofs.show.Goals as goal

pub returns : goal.returns
returns c =
    let id = c.packet_id-id.result in
    let sequence = 0xC000 + c.get.result % 16384 in
    let id_high : id / 256 % 256 ≡ id / 256 = omega arith in
    let sequence_high : sequence / 256 % 256 ≡ sequence / 256 = omega arith in
    c.copy_part.ensures
    ∙ rw (c.slot_at.ensures.0, c.first.ensures.0, c.copy_to.ensures, c.to_be_bytes.ensures, c.to_be_bytes-2.ensures, id_high, sequence_high, c.packet_id-id.ensures, c.get.ensures, c.channel_at.ensures.0)
    (shows c.args.s.now c.requires.0 (λ i. (c.type_inv.s i).fits) c.requires.1 c.args.out.now (channel c.args.side) c.requires.2)
