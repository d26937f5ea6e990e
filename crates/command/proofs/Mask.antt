-- `&` of two numbers is 0 where they have no bit in common, and nowhere else.
-- Assumes nothing.
use mathlib.Core.Path.{◌≡◌, sym, ap, ◌∙◌}
use mathlib.Core.Bool.{Bool, false, not, ◌&&◌, ◌||◌}
use Prim.Native.Nat.{ℕ, zero, suc, ◌+◌, ◌*◌, ◌/◌, ◌%◌, ◌^◌, ◌<◌, min}
use native.Mathlib.Nat.{mod-one, mod-eq_of_lt, lt_of_le_of_lt}
use native.Mathlib.Omega.{arith}
use lib.Arith.{mod-mul}
use lib.Bits.{bit_and, and_le_l}
use Rattle.std.proofs.lemmas.Nat.Bits.{bit_at_and}
use Rattle.std.proofs.lemmas.Grind.{common_steps}
use lib.Dec.{eqb}
use lib.Pow.{pow_pos}
use Rattle.paper.specs.Commands.{names}

-- one of the lowest n bits is in both
abbrev pub common : ℕ → ℕ → ℕ → Bool
common a b zero = false
common a b (suc n) = (names a n && names b n) || common a b n

-- a bit of weight p before the bits below it, r
bit : (x y p r : ℕ) (s : Bool) → x < 2 → y < 2 → 0 < p → not (eqb r 0) ≡ s
    → not (eqb (min x y * p + r) 0) ≡ (eqb x 1 && eqb y 1) || s
bit x y p r s a b c e = grind (arith, common_steps)

below : (a b n : ℕ) → not (eqb (bit_and a b % 2 ^ n) 0) ≡ common a b n
below a b zero = rw (mod-one (bit_and a b))
below a b (suc n) =
    let twice : 2 ^ suc n ≡ 2 * 2 ^ n = omega arith in
    let both : ℕ = bit_and a b in
    let split : both % (2 * 2 ^ n) ≡ (both / 2 ^ n % 2) * 2 ^ n + both % 2 ^ n = mod-mul both (omega arith) (pow_pos n) in
    rw (twice, split, bit_at_and a b n)
    (bit (a / 2 ^ n % 2) (b / 2 ^ n % 2) (2 ^ n) (both % 2 ^ n) (common a b n) (omega arith) (omega arith) (pow_pos n)
    (below a b n))

-- a number of n bits has no others in common with any
pub common_and : (a b n : ℕ) → a < 2 ^ n → not (eqb (bit_and a b) 0) ≡ common a b n
common_and a b n h =
    ap (λ (x : ℕ). not (eqb x 0)) (sym (mod-eq_of_lt {m = 2 ^ n} (lt_of_le_of_lt (and_le_l a b) h))) ∙ below a b n
