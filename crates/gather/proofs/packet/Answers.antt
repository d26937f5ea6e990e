-- `gather::packet` meets its contract: a packet of a stream is received.
-- Assumes nothing.
use mathlib.Core.Path.{sym, ◌∙◌}
use Rattle.gather.proofs.Receiving.{known, arrival}
use Rattle.gather.proofs.packet.Goals as goal

pub returns : goal.returns
returns c =
    let a = c.args in
    let believed = sym c.well_formed-2.ensures ∙ c.if-not-well_formed.false in
    rw (
      known a.s.now a.f.now a.out.now (sym c.fits.ensures ∙ c.if-not-fits.false) c.if-out-lt-PACKET_ROOM.false,
      arrival a.f.now c.in-Ok.stream c.get-tag.result believed c.get-tag.ensures c.in-Ok.ensures,
    ) c.receive.ensures
