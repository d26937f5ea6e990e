-- `gather::receive` meets its contract: each arm leaves its move's stores.
-- Assumes nothing.
use Rattle.track.specs.declared.Move.TheVariants.{Repeat, Dropped, Kept, Finished}
use Rattle.gather.proofs.Receiving.{arrived}
use Rattle.gather.proofs.receive.Goals as goal

pub returns-in-Repeat : goal.returns-in-Repeat
returns-in-Repeat c =
    let a = c.args in
    arrived a.s.now a.stream a.count a.f.now a.out.now _ _ _ _ Repeat c.requires c.recorded-track.ensures c.row.ensures.row.pieces c.arrive.ensures c.in-Repeat.is

pub returns-in-Dropped : goal.returns-in-Dropped
returns-in-Dropped c =
    let a = c.args in
    rw c.note.ensures
    (arrived a.s.now a.stream a.count a.f.now a.out.now _ _ _ _ Dropped c.requires c.recorded-track.ensures c.row.ensures.row.pieces c.arrive.ensures c.in-Dropped.is)

pub returns-in-Kept : goal.returns-in-Kept
returns-in-Kept c =
    let a = c.args in
    rw (c.note-in-Kept.ensures, c.keep.ensures)
    (arrived a.s.now a.stream a.count a.f.now a.out.now _ _ _ _ Kept c.requires c.recorded-track.ensures c.row.ensures.row.pieces c.arrive.ensures c.in-Kept.is)

pub returns-in-Finished : goal.returns-in-Finished
returns-in-Finished c =
    let a = c.args in
    rw (c.hand_out.ensures, c.note-in-Finished.ensures, c.keep-in-Finished.ensures)
    (arrived a.s.now a.stream a.count a.f.now a.out.now _ _ _ _ Finished c.requires c.recorded-track.ensures c.row.ensures.row.pieces c.arrive.ensures c.in-Finished.is)
