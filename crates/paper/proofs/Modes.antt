-- Document 01, "Time and mode": laws about changes of mode.
-- Assumes nothing.
use mathlib.Core.Path.{◌≡◌, refl}
use mathlib.Core.Logic.{◌⊎◌, inl, inr}
use mathlib.Core.Bool.{Bool, true, false, cond}
use Prim.Native.Nat.{ℕ}
use Rattle.paper.specs.Frames.{Channel, broadcast}
use Rattle.paper.specs.Clock.{seconds, ssp_time}
use Rattle.paper.specs.Mode.{Mode, same, entered, Standing, ruled}
use Rattle.paper.specs.Impact.{collects}
use Rattle.paper.specs.Controller.{Controller}
use Rattle.paper.specs.Acts.{accepted, moved, heard, enter}

-- "At most one change per broadcast": the standing is as it was, or one entry has been made of it.
pub at_most_one : (c : Controller) (cc : Channel) (time altitude spin phase : ℕ)
    → ((accepted c (broadcast cc time altitude spin phase)).standing ≡ c.standing)
    ⊎ ((mode : Mode)
    × ((accepted c (broadcast cc time altitude spin phase)).standing
    ≡ entered c.standing mode c.standing.locked (ssp_time (seconds time) 0) altitude (seconds time)))
unfolding accepted moved heard enter
at_most_one c cc time altitude spin phase = at (same mode c.standing.mode)
  where
    mode : Mode
    mode = ruled c.standing (record { t = seconds time; altitude = altitude; collecting = collects c.impact.collection })

    after : Bool → Standing
    after b =
        (cond b (heard c cc time altitude spin phase)
        (enter (heard c cc time altitude spin phase) mode c.standing.locked (seconds time))).standing

    at : (b : Bool)
        → (after b ≡ c.standing)
        ⊎ ((m : Mode) × (after b ≡ entered c.standing m c.standing.locked (ssp_time (seconds time) 0) altitude (seconds time)))
    at true = inl refl
    at false = inr (mode, refl)
