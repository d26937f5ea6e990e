-- The window in a byte is document 01's window: the empty one, a comparison more, and the ones that are counted.
-- Assumes nothing.
use mathlib.Core.Path.{◌≡◌, refl, sym, ap, ◌∙◌}
use mathlib.Core.Bool.{Bool, cond}
use Prim.Native.Nat.{ℕ, zero, suc, ◌+◌, ◌*◌, ◌/◌, ◌%◌, ◌^◌, ◌<◌}
use native.Mathlib.Nat.{div-one, mul-add-mod_self_left, div-div-eq-div-mul, pow-suc}
use native.Mathlib.Omega.{arith}
use lib.Dec.{eqb}
use lib.Count.{ones, ones_step}
use Rattle.paper.specs.Status.{bit, bit_of}
use Rattle.paper.specs.Impact.{compared, ones as ones_of}
use Rattle.paper.proofs.Labels.{bit_le, bit_back}
use Rattle.impact.specs.Window.{window_of, window_after}

-- an even number more does not change the lowest bit
lowest : (x q d : ℕ) → x ≡ 2 * q + d → d % 2 ≡ x % 2
lowest x q d e = sym (ap (λ (n : ℕ). n % 2) e ∙ mul-add-mod_self_left 2 q d)

-- a comparison more; whatever stood above the five bits falls out too
pub window_moves : (w : ℕ) (b : Bool) → window_of (window_after w b) ≡ compared b (window_of w)
window_moves w b =
    let r : ℕ = window_after w b in
    let out : ℕ = w / 16 in
    let l = bit_le b in
    let e0 : r / 1 % 2 ≡ bit b = omega arith in
    let half : r / 2 ≡ w % 16 = omega arith in
    let e1 : r / 2 % 2 ≡ w / 1 % 2 = lowest (w / 1) (8 * out) (r / 2) (omega arith) in
    let e2 : r / 4 % 2 ≡ w / 2 % 2 = lowest (w / 2) (4 * out) (r / 4) (omega arith) in
    let e3 : r / 8 % 2 ≡ w / 4 % 2 = lowest (w / 4) (2 * out) (r / 8) (omega arith) in
    let e4 : r / 16 % 2 ≡ w / 8 % 2 = lowest (w / 8) out (r / 16) (omega arith) in
    rw (e0, bit_back b, e1, e2, e3, e4)

-- a binary digit counts for itself
digit : (n : ℕ) → n < 2 → n ≡ cond (eqb n 1) 1 0
digit zero h = refl
digit (suc zero) h = refl
digit (suc (suc n)) h = omega arith

-- the ones from bit k on: that bit, and those above it
ones_from : (w k : ℕ) → ones (w / 2 ^ k) ≡ cond (bit_of w k) 1 0 + ones (w / 2 ^ suc k)
ones_from w k =
    let low : ℕ = w / 2 ^ k % 2 in
    let rest : w / 2 ^ k / 2 ≡ w / 2 ^ suc k = div-div-eq-div-mul w (2 ^ k) 2 ∙ ap (λ (n : ℕ). w / n) (sym (pow-suc 2 k)) in
    ones_step (w / 2 ^ k)
    ∙ ap (λ (n : ℕ). n + ones (w / 2 ^ k / 2)) (digit low (omega arith))
    ∙ ap (λ (n : ℕ). cond (bit_of w k) 1 0 + ones n) rest

-- the ones of a window's byte are those of the window
pub ones_counted : (w : ℕ) → w < 32 → ones w ≡ ones_of (window_of w)
unfolding ones
ones_counted w h =
    let none : w / 32 ≡ 0 = omega arith in
    ap ones (sym (div-one w))
    ∙ ones_from w 0
    ∙ rw (ones_from w 1, ones_from w 2, ones_from w 3, ones_from w 4, none)
