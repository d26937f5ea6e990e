-- An accepted broadcast: the bytes after its words are stored, and after the mode rule, hold document 01's controller.
-- Assumes nothing.
use mathlib.Core.Path.{◌≡◌, refl, ap, ◌∙◌}
use mathlib.Core.Bool.{Bool, true, false, cond}
use mathlib.Core.List.{List, [], ◌∷◌, ◌++◌}
use Prim.Native.Nat.{ℕ, ◌+◌, ◌≤◌}
use native.Mathlib.Omega.{arith}
use lib.Dec.{leb}
use lib.ListN.{length}
use Rattle.wire.specs.Wire.{be16, bytes16, put, raised_on}
use Rattle.wire.proofs.Runs.{get_or-put_inside, be16-put_inside, be16-bytes16}
use Rattle.modes.proofs.Numbers.{nibble-mode, nibble-locked, nibble-small}
use Rattle.paper.specs.Frames.{Channel}
use Rattle.paper.specs.Clock.{seconds}
use Rattle.paper.specs.Mode.{Mode, nibble, same, ruled}
use Rattle.paper.specs.Controller.{Controller, with_clock}
use Rattle.paper.specs.Acts.{heard, enter, moved}
use Rattle.paper.specs.Step.{late_heard}
use Rattle.state.specs.Layout.{time_at, broadcasts_at, altitude_at}
use Rattle.state.specs.View.{clock_in, standing_in, impact_in, view, capped, m_in}
use Rattle.state.specs.Range.{Whole}
use Rattle.machine.specs.Entered.{entered_on}
use Rattle.machine.specs.Heard.{heard_on, seen_in, moved_on}
use Rattle.machine.proofs.Past.{past-whole, broadcasts-at, raised-past}
use Rattle.machine.proofs.Same.{view_clocked}
use Rattle.machine.proofs.Entries.{entered-view}
use Rattle.machine.proofs.Counts.{late-view}

-- ---- "raises its count, stores its words (altitude bit 15 included), sets m to 0"

module _ (s : List ℕ) (f : Whole s) (cc : Channel) (time altitude spin phase : ℕ) where
  -- the bytes with the count raised, and the words that are stored in them
  abbrev up : List ℕ
  up = raised_on s (broadcasts_at cc)

  abbrev words : List ℕ
  words = bytes16 time ++ (bytes16 altitude ++ (spin ∷ phase ∷ 0 ∷ 0 ∷ []))

  up_whole : Whole up
  up_whole = past-whole (raised-past s (broadcasts_at cc) (broadcasts-at cc) f) f

  words_fit : time_at + 8 ≤ length up
  words_fit = omega (arith, up_whole)

  m_zero : m_in (put up time_at words) ≡ 0
  unfolding capped
  m_zero = ap (capped 1023) (be16-put_inside up time_at words words_fit 6 (omega arith))

  pub heard-view : view (heard_on s cc time altitude spin phase) ≡ heard (view s) cc time altitude spin phase
  unfolding heard_on heard late_heard clock_in
  heard-view =
      let first : be16 (put up time_at words) time_at ≡ time =
      be16-put_inside up time_at words words_fit 0 (omega arith) ∙ be16-bytes16 time in
      let second : be16 (put up time_at words) altitude_at ≡ altitude =
      be16-put_inside up time_at words words_fit 2 (omega arith) ∙ be16-bytes16 altitude in
      view_clocked up up_whole time_at words (omega arith) (omega arith)
      (λ i.
      record {
        time = first i;
        altitude = second i;
        spin = get_or-put_inside up time_at words words_fit 4 (omega arith) i;
        phase = get_or-put_inside up time_at words words_fit 5 (omega arith) i;
        m = m_zero i;
      })
      ∙ ap
      (λ (c : Controller).
      with_clock c (record { time = time; altitude = altitude; spin = spin; phase = phase; m = 0 }))
      (late-view s f cc)

-- ---- "then, if unlocked:" the mode rule

module _ (s : List ℕ) (f : Whole s) where
  -- the mode that it leads to, the same with its lock, and T
  abbrev led : Mode
  led = ruled (standing_in s) (seen_in s)

  abbrev code : ℕ
  code = nibble led (standing_in s).locked

  abbrev t : ℕ
  t = seconds (be16 s time_at)

  pub moved_view : view (moved_on s) ≡ moved (view s)
  unfolding moved_on moved view clock_in impact_in
  moved_view = at (same led (standing_in s).mode)
    where
      at : (b : Bool) → view (cond b s (entered_on s code t)) ≡ cond b (view s) (enter (view s) led (standing_in s).locked t)
      at true = refl
      at false =
          entered-view s f code t (nibble-small led (standing_in s).locked)
          ∙ ap (λ (m : Mode). enter (view s) m (leb 8 code) t) (nibble-mode led (standing_in s).locked)
          ∙ ap (λ (b : Bool). enter (view s) led b t) (nibble-locked led (standing_in s).locked)
