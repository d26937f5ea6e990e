-- What an accepted command asks for: what the bytes hold afterwards is document 01's controller that obeyed it.
-- Assumes nothing.
use mathlib.Core.Path.{◌≡◌, refl}
use mathlib.Core.List.{List}
use Prim.Native.Nat.{ℕ, ◌<◌}
use Rattle.paper.specs.Commands.{Request, clear, housekeeping, set_mode}
use Rattle.paper.specs.Streams.{hk}
use Rattle.paper.specs.Acts.{obeyed}
use Rattle.state.specs.View.{view}
use Rattle.state.specs.Range.{Whole}
use Rattle.machine.specs.Stores.{Free}
use Rattle.machine.specs.Obeyed.{obeyed_on}
use Rattle.machine.proofs.Queue.{cleared-view}
use Rattle.machine.proofs.Sent.{housekept_view}
use Rattle.machine.proofs.Entries.{commanded-view}

pub obeyed-view : (s : List ℕ) (q : Request) → Whole s → (q ≡ housekeeping → Free s hk) → ((v : ℕ) → q ≡ set_mode v → v < 16)
    → view (obeyed_on s q) ≡ obeyed (view s) q
unfolding obeyed_on obeyed
obeyed-view s (clear mask) f room small = cleared-view s mask f
obeyed-view s housekeeping f room small = housekept_view s f (room refl)
obeyed-view s (set_mode value) f room small = commanded-view s f value (small value refl)
