-- The reply to a tick by what stands in the lent bytes, and what counting and taking a reading leave there.
-- Assumes nothing.
use mathlib.Core.Path.{◌≡◌, sym, ap, ◌∙◌}
use mathlib.Core.Bool.{cond, ◌&&◌}
use mathlib.Core.List.{List}
use mathlib.Core.Logic.{inr}
use Prim.Native.Nat.{ℕ, ◌%◌, ◌<◌}
use native.Mathlib.Omega.{arith}
use lib.Dec.{eqb, leb, ltb}
use lib.ListN.{length}
use Rattle.wire.specs.Wire.{be16}
use Rattle.paper.specs.Frames.{tick}
use Rattle.paper.specs.Mode.{number}
use Rattle.paper.specs.Streams.{acc_i}
use Rattle.paper.specs.Controller.{Controller}
use Rattle.paper.specs.Acts.{m_raised}
use Rattle.paper.specs.Step.{holds, crowded, reply}
use Rattle.state.specs.Layout.{commands_at, further_at}
use Rattle.state.specs.View.{nibble_in, waiting_in, view}
use Rattle.state.specs.Range.{Whole}
use Rattle.lent.proofs.Same.{be16-same}
use Rattle.machine.specs.Ticked.{m_raised_on, with_reading_on}
use Rattle.machine.proofs.Queue.{queue-length}
use Rattle.modes.specs.contracts.ModePartialEq.TheImpl.{eq-value}
use Rattle.modes.specs.declared.Mode.TheVariants.{Proximity}
use Rattle.modes.specs.declared.Nibble.{Nibble}
use Rattle.modes.specs.Meaning.{bits, Keeps}
use Rattle.modes.proofs.Order.{in_mode}
use Rattle.machine.proofs.Ticks.{completes-view, counted_view, counted_whole, taken-view, read_same}

-- whether it is mode 4, by the byte that holds the mode and its lock
pub in_fourth : (s : List ℕ) (n : Nibble) → Keeps (nibble_in s) n → eqb (nibble_in s % 8) 4 ≡ eq-value.it n.mode Proximity
unfolding number
in_fourth s n keeps =
    let low : nibble_in s % 8 ≡ bits n % 8 = omega (arith, keeps.0) in
    ap (λ (k : ℕ). eqb k 4) low ∙ sym (in_mode n Proximity)

-- 4 for a reading out of range, 7 for a completing tick without seven free slots
pub tick_reply : (s : List ℕ) (r : ℕ) → reply (holds (view s)) (tick r) 126
    ≡ cond (ltb 4095 r) 4
    (cond ((eqb (nibble_in s % 8) 4 && leb 448 (be16 s further_at)) && crowded (view s) acc_i) 7 0)
unfolding reply
tick_reply s r = rw (completes-view s)

module _ (s : List ℕ) (r : ℕ) (f : Whole s) (b : r < 4096) where
  pub read_waits : waiting_in (with_reading_on (m_raised_on s) r) ≡ waiting_in s
  unfolding m_raised
  read_waits =
      sym (queue-length (with_reading_on (m_raised_on s) r))
      ∙ ap (λ (c : Controller). length c.streams.queue) (taken-view (m_raised_on s) r (counted_whole s f) b)
      ∙ ap (λ (c : Controller). length c.streams.queue) (counted_view s f)
      ∙ queue-length s

  pub read_further : be16 (with_reading_on (m_raised_on s) r) further_at ≡ be16 s further_at
  read_further =
      be16-same (read_same s r f b further_at commands_at (omega arith) (omega arith) (inr (omega arith))) further_at (omega arith) (omega arith)
