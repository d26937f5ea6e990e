-- Numbers that go no further than another.
-- Assumes nothing.
use mathlib.Core.Path.{◌≡◌, refl}
use mathlib.Core.Bool.{Bool, true, false, cond}
use Prim.Native.Nat.{ℕ, ◌≤◌}
use native.Mathlib.Omega.{arith}
use lib.Dec.{ltb}
use borrow.Author.Tests.{ltb-true, ltb-false, le-ltb}
use Rattle.state.specs.View.{capped}

pub capped_most : (most n : ℕ) → capped most n ≤ most
unfolding capped
capped_most most n = at (ltb n most) refl
  where
    at : (b : Bool) → ltb n most ≡ b → cond b n most ≤ most
    at true e = omega (arith, ltb-true n most e)
    at false e = omega arith

pub capped-low : (most n : ℕ) → n ≤ most → capped most n ≡ n
unfolding capped
capped-low most n h = at (ltb n most) refl
  where
    at : (b : Bool) → ltb n most ≡ b → cond b n most ≡ n
    at true e = refl
    at false e = omega (arith, ltb-false n most e)

pub capped-high : (most n : ℕ) → most ≤ n → capped most n ≡ most
unfolding capped
capped-high most n h = rw (le-ltb n most h)
