-- Modes and their numbers, there and back; mode and lock in one number, and back; the same of the code's own modes.
-- Assumes nothing.
use mathlib.Core.Path.{◌≡◌, refl, sym, ap, ◌∙◌}
use mathlib.Core.Bool.{Bool, true, false, cond}
use Prim.Native.Nat.{ℕ, zero, suc, ◌+◌, ◌%◌, ◌<◌}
use native.Mathlib.Omega.{arith}
use lib.Dec.{leb}
use denote.Enum.Declared.{tag_of}
use borrow.Author.Tests.{leb-true, leb-false, le-leb, lt-leb}
use Rattle.paper.specs.Mode as paper
use Rattle.paper.specs.Mode.{emc, upper, mid, lower, proximity, surface, extended, diagnostic, number, mode_of, nibble}
use Rattle.modes.specs.contracts.Mode.{the_type}
use Rattle.modes.specs.declared.Mode.{Mode}
use Rattle.modes.specs.declared.Mode.TheVariants.{Emc, Upper, Mid, Lower, Proximity, Surface, Extended, Diagnostic}
use Rattle.modes.specs.declared.Nibble.{Nibble}
use Rattle.modes.specs.Meaning.{mode_meant, number_meant, bits}

-- ---- a mode and its number

pub number-mode_of : (n : ℕ) → n < 8 → number (mode_of n) ≡ n
unfolding number mode_of
number-mode_of zero h = refl
number-mode_of (suc zero) h = refl
number-mode_of (suc (suc zero)) h = refl
number-mode_of (suc (suc (suc zero))) h = refl
number-mode_of (suc (suc (suc (suc zero)))) h = refl
number-mode_of (suc (suc (suc (suc (suc zero))))) h = refl
number-mode_of (suc (suc (suc (suc (suc (suc zero)))))) h = refl
number-mode_of (suc (suc (suc (suc (suc (suc (suc zero))))))) h = refl
number-mode_of (suc (suc (suc (suc (suc (suc (suc (suc n)))))))) h = omega arith

pub mode_of-number : (m : paper.Mode) → mode_of (number m) ≡ m
unfolding number mode_of
mode_of-number emc = refl
mode_of-number upper = refl
mode_of-number mid = refl
mode_of-number lower = refl
mode_of-number proximity = refl
mode_of-number surface = refl
mode_of-number extended = refl
mode_of-number diagnostic = refl

pub number_small : (m : paper.Mode) → number m < 8
unfolding number
number_small emc = omega arith
number_small upper = omega arith
number_small mid = omega arith
number_small lower = omega arith
number_small proximity = omega arith
number_small surface = omega arith
number_small extended = omega arith
number_small diagnostic = omega arith

-- ---- mode and lock in one number

-- the lock is in no way of the mode
apart : (m : paper.Mode) (b : Bool) → nibble m b % 8 ≡ number m
unfolding nibble
apart m true = omega (arith, number_small m)
apart m false = omega (arith, number_small m)

pub nibble-mode : (m : paper.Mode) (b : Bool) → mode_of (nibble m b % 8) ≡ m
nibble-mode m b = ap mode_of (apart m b) ∙ mode_of-number m

pub nibble-locked : (m : paper.Mode) (b : Bool) → leb 8 (nibble m b) ≡ b
unfolding nibble
nibble-locked m true = le-leb 8 (number m + 8) (omega arith)
nibble-locked m false = lt-leb 8 (number m) (number_small m)

pub nibble-small : (m : paper.Mode) (b : Bool) → nibble m b < 16
unfolding nibble
nibble-small m true = omega (arith, number_small m)
nibble-small m false = omega (arith, number_small m)

pub nibble_back : (n : ℕ) → n < 16 → nibble (mode_of (n % 8)) (leb 8 n) ≡ n
unfolding nibble
nibble_back n h = rw (number-mode_of (n % 8) (omega arith)) (at (leb 8 n) refl)
  where
    at : (b : Bool) → leb 8 n ≡ b → cond b (n % 8 + 8) (n % 8) ≡ n
    at true e = omega (arith, leb-true 8 n e)
    at false e = omega (arith, leb-false 8 n e)

-- ---- the code's modes

-- a mode's place is its number
pub place_is_number : (mode : Mode) → tag_of the_type mode ≡ number_meant mode
unfolding number
place_is_number Emc = refl
place_is_number Upper = refl
place_is_number Mid = refl
place_is_number Lower = refl
place_is_number Proximity = refl
place_is_number Surface = refl
place_is_number Extended = refl
place_is_number Diagnostic = refl

-- a mode with its lock, from its number
pub mode_from_bits : (n : Nibble) → mode_meant n.mode ≡ mode_of (bits n % 8)
mode_from_bits n = sym (nibble-mode (mode_meant n.mode) n.locked)

pub number_from_bits : (n : Nibble) → number_meant n.mode ≡ bits n % 8
number_from_bits n = sym (apart (mode_meant n.mode) n.locked)

pub locked_from_bits : (n : Nibble) → n.locked ≡ leb 8 (bits n)
locked_from_bits n = sym (nibble-locked (mode_meant n.mode) n.locked)

pub bits_small : (n : Nibble) → bits n < 16
bits_small n = nibble-small (mode_meant n.mode) n.locked
