-- The mode rule on the lent bytes, by the mode with its lock that they hold: what the code's tests say of `moved_on`.
-- Assumes nothing.
use mathlib.Core.Path.{◌≡◌, refl, sym, ap, ◌∙◌}
use mathlib.Core.Bool.{Bool, true, false, cond, not}
use mathlib.Core.List.{List}
use Prim.Native.Nat.{ℕ, zero, suc, ◌%◌}
use native.Mathlib.Omega.{arith}
use borrow.Author.Tests.{eq-eqb}
use lib.Dec.{eqb, leb, ltb, eqb-suc-zero}
use Rattle.wire.specs.Wire.{be16, be24}
use Rattle.paper.specs.Clock.{seconds, seconds_of}
use Rattle.paper.specs.Mode as paper
use Rattle.paper.specs.Mode.{nibble, next, ruled, same}
use Rattle.paper.specs.Impact.{collects}
use Rattle.modes.specs.contracts.ModePartialEq.TheImpl.{eq-value}
use Rattle.modes.specs.declared.Mode.{Mode}
use Rattle.modes.specs.declared.Nibble.{Nibble}
use Rattle.modes.specs.Meaning.{mode_meant, number_meant, Keeps}
use Rattle.modes.proofs.Order.{eq_is_eqb}
use Rattle.state.specs.Layout.{time_at, entry_time_at, reference_at}
use Rattle.state.specs.View.{capped, nibble_in, collection_of, standing_in}
use Rattle.machine.specs.Entered.{entered_on}
use Rattle.machine.specs.Heard.{seen_in, moved_on}

-- whether a collection runs, by the number that is kept
pub collects_is : (n : ℕ) → collects (collection_of (capped 448 n)) ≡ not (eqb n 0)
unfolding capped
collects_is zero = refl
collects_is (suc k) = at (ltb (suc k) 448) ∙ rw (eqb-suc-zero k)
  where
    at : (b : Bool) → collects (collection_of (cond b (suc k) 448)) ≡ true
    at true = refl
    at false = refl

not_false : {b : Bool} → not b ≡ false → b ≡ true
not_false e = grind (arith, e)

not_true : {b : Bool} → not b ≡ true → b ≡ false
not_true e = grind (arith, e)

module _ (s : List ℕ) (held : Nibble) (keeps : Keeps (nibble_in s) held) where
  locked_is : leb 8 (nibble_in s) ≡ held.locked
  locked_is =
      let twice : nibble_in s ≡ nibble_in s % 16 = omega arith in
      ap (leb 8) twice ∙ sym keeps.2

  -- a locked mode stays
  pub locked_stays : held.locked ≡ true → s ≡ moved_on s
  unfolding moved_on ruled standing_in
  locked_stays h = rw (locked_is, h, ← keeps.1, eq-eqb (number_meant held.mode) (number_meant held.mode) refl)

  -- the mode that the rule leads to
  abbrev pub ahead : paper.Mode
  ahead = next (mode_meant held.mode) (seconds_of (be24 s entry_time_at)) (be16 s reference_at) (seen_in s)

  moves : held.locked ≡ false
      → moved_on s ≡ cond (same ahead (mode_meant held.mode)) s (entered_on s (nibble ahead held.locked) (seconds (be16 s time_at)))
  unfolding moved_on ruled standing_in
  moves h = rw (locked_is, h, ← keeps.1)

  pub same_stays : held.locked ≡ false → (n : Mode) → mode_meant n ≡ ahead → not (eq-value.it n held.mode) ≡ false → s ≡ moved_on s
  same_stays h n e t =
      let as_numbers : not (eqb (number_meant n) (number_meant held.mode)) ≡ false = ap not (sym (eq_is_eqb n held.mode)) ∙ t in
      sym (moves h ∙ rw (← e, not_false as_numbers))

  pub other_enters : held.locked ≡ false → (n : Mode) → mode_meant n ≡ ahead → not (eq-value.it n held.mode) ≡ true
      → entered_on s (nibble (mode_meant n) held.locked) (seconds (be16 s time_at)) ≡ moved_on s
  other_enters h n e t =
      let as_numbers : not (eqb (number_meant n) (number_meant held.mode)) ≡ true = ap not (sym (eq_is_eqb n held.mode)) ∙ t in
      sym (moves h ∙ rw (← e, not_true as_numbers))
