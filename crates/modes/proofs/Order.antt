-- The code's modes are compared as document 01's numbers are: their derived order and equality, and the greater of two. Seen at each two
-- of them.
-- Assumes nothing.
use mathlib.Core.Path.{◌≡◌, ap, ◌∙◌}
use Prim.Native.Nat.{ℕ, ◌%◌}
use lib.Dec.{leb, eqb}
use borrow.Author.Rules.{rules}
use Rattle.std.specs.Ordering.{ord_max, partial_le}
use Rattle.paper.specs.Mode.{number, greater}
use Rattle.modes.specs.contracts.ModeOrd.TheImpl.{cmp-value}
use Rattle.modes.specs.contracts.ModePartialEq.TheImpl.{eq-value}
use Rattle.modes.specs.contracts.ModePartialOrd.TheImpl.{partial_cmp-value}
use Rattle.modes.specs.declared.Mode.{Mode}
use Rattle.modes.specs.declared.Mode.TheVariants.{Emc, Upper, Mid, Lower, Proximity, Surface, Extended, Diagnostic}
use Rattle.modes.specs.declared.Nibble.{Nibble}
use Rattle.modes.specs.Meaning.{mode_meant, number_meant, bits}
use Rattle.modes.proofs.Numbers.{number_from_bits}

-- what holds of each mode, and so of any
abbrev Each : (Mode → Type 0) → Type 0
Each P = P Emc × P Upper × P Mid × P Lower × P Proximity × P Surface × P Extended × P Diagnostic

at_each : (P : Mode → Type 0) → Each P → (mode : Mode) → P mode
at_each P h Emc = h.0
at_each P h Upper = h.1
at_each P h Mid = h.2
at_each P h Lower = h.3
at_each P h Proximity = h.4
at_each P h Surface = h.5
at_each P h Extended = h.6
at_each P h Diagnostic = h.7

-- the three comparisons are those of the numbers
abbrev Agree : Mode → Mode → Type 0
Agree a b =
    (mode_meant (ord_max cmp-value.it a b) ≡ greater (mode_meant a) (mode_meant b))
    × (partial_le partial_cmp-value.it a b ≡ leb (number_meant a) (number_meant b))
    × (eq-value.it a b ≡ eqb (number_meant a) (number_meant b))

agree : Each (λ a. Each (Agree a))
unfolding number greater
agree = search rules

at_two : (a b : Mode) → Agree a b
at_two a b = at_each (Agree a) (at_each (λ x. Each (Agree x)) agree a) b

pub max_is_greater : (a b : Mode) → mode_meant (ord_max cmp-value.it a b) ≡ greater (mode_meant a) (mode_meant b)
max_is_greater a b = (at_two a b).0

pub le_is_leb : (a b : Mode) → partial_le partial_cmp-value.it a b ≡ leb (number_meant a) (number_meant b)
le_is_leb a b = (at_two a b).1

pub eq_is_eqb : (a b : Mode) → eq-value.it a b ≡ eqb (number_meant a) (number_meant b)
eq_is_eqb a b = (at_two a b).2

-- whether a mode with its lock is in a mode, seen at its number
pub in_mode : (n : Nibble) (mode : Mode) → eq-value.it n.mode mode ≡ eqb (bits n % 8) (number_meant mode)
in_mode n mode = eq_is_eqb n.mode mode ∙ ap (λ (k : ℕ). eqb k (number_meant mode)) (number_from_bits n)
