-- Packets that are built and queued: what the bytes hold afterwards is document 01's controller with the packet in its queue.
-- Assumes nothing.
use mathlib.Core.Path.{◌≡◌, refl, sym, ◌∙◌}
use mathlib.Core.Bool.{Bool, true, false}
use mathlib.Core.List.{List, [], ◌∷◌}
use Prim.Native.Nat.{ℕ, ◌+◌, ◌-◌, ◌*◌, ◌≤◌}
use native.Mathlib.Omega.{arith}
use lib.Dec.{ltb}
use borrow.Author.Tests.{ltb-true, ltb-false, lt-ltb, le-ltb}
use lib.ListN.{length, get_or, length-append, length-replicate}
use Rattle.paper.specs.Streams.{row_of, acc_i, hk, pieces, per_packet, carried}
use Rattle.paper.specs.Packets.{data_of, datastream, filled, cut}
use Rattle.paper.specs.Controller.{stamp_now, queued}
use Rattle.paper.specs.Housekeeping.{housekeeping_packet}
use Rattle.paper.specs.Acts.{impact_packet}
use Rattle.paper.specs.Step.{crowded}
use Rattle.paper.proofs.Table.{carried-small}
use Rattle.state.specs.Layout.{waiting_at}
use Rattle.state.specs.View.{waiting_in, impact_in, samples_in, view}
use Rattle.state.specs.Range.{Whole}
use Rattle.state.proofs.Numbers.{capped_most}
use Rattle.machine.specs.Stores.{Free}
use Rattle.machine.specs.Built.{sent_on, housekept_on, impact_record_on, stamp_in, full_on, single_on}
use Rattle.machine.proofs.Queue.{queue-length, queued-view}

-- the test for room, by the bytes
pub crowded_bytes : (s : List ℕ) (t : ℕ) → ltb 48 (waiting_in s + pieces t) ≡ crowded (view s) t
crowded_bytes s t = at (ltb 48 (waiting_in s + pieces t)) refl
  where
    most : waiting_in s ≤ 48
    most = capped_most 48 (get_or s waiting_at 0)

    at : (b : Bool) → ltb 48 (waiting_in s + pieces t) ≡ b → b ≡ crowded (view s) t
    at true e = sym (lt-ltb (48 - length (view s).streams.queue) (pieces t) (omega (arith, queue-length s, most, ltb-true 48 (waiting_in s + pieces t) e)))
    at false e = sym (le-ltb (48 - length (view s).streams.queue) (pieces t) (omega (arith, queue-length s, most, ltb-false 48 (waiting_in s + pieces t) e)))

-- where it is not crowded, there is room
pub free-room : (s : List ℕ) (t : ℕ) → crowded (view s) t ≡ false → Free s t
free-room s t h = ltb-false 48 (waiting_in s + pieces t) (crowded_bytes s t ∙ h)

-- a filled packet is long enough for its pieces
pub filled-long : (k : ℕ) (x : List ℕ) → 118 * k ≤ length (filled k x)
filled-long k x = simp (length-append, length-replicate) (omega arith)

pub sent-view : (s : List ℕ) (t : ℕ) (x : List ℕ) → Whole s → carried t ≡ true → Free s t
    → view (sent_on s t x) ≡ queued (view s) t x
unfolding queued cut
sent-view s t x w c room =
    queued-view s t (pieces t) (filled (pieces t) x) w (carried-small t c) room (filled-long (pieces t) x)

pub housekept_view : (s : List ℕ) → Whole s → Free s hk → view (housekept_on s) ≡ queued (view s) hk (housekeeping_packet (view s))
unfolding housekept_on row_of
housekept_view s w room = sent-view s hk (housekeeping_packet (view s)) w refl room

pub recorded_view : (s : List ℕ) → Whole s → Free s acc_i → view (impact_record_on s) ≡ queued (view s) acc_i (impact_packet (impact_in s))
unfolding impact_record_on row_of
recorded_view s w room = sent-view s acc_i (impact_packet (impact_in s)) w refl room

pub single_view : (s : List ℕ) (t : ℕ) (x : List ℕ) → Whole s → carried t ≡ true → Free s t
    → view (single_on s t x) ≡ queued (view s) t (datastream (stamp_now (view s) t) (data_of t (x ∷ [])))
unfolding single_on
single_view s t x w c room = sent-view s t (datastream (stamp_now (view s) t) (data_of t (x ∷ []))) w c room

pub full_view : (s : List ℕ) (t : ℕ) → Whole s → carried t ≡ true → Free s t
    → view (full_on s t) ≡ queued (view s) t (datastream (stamp_in s t) (data_of t (samples_in s t (per_packet t))))
unfolding full_on
full_view s t w c room = sent-view s t (datastream (stamp_in s t) (data_of t (samples_in s t (per_packet t)))) w c room
