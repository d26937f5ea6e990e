-- What the bytes of a frame say of it, by the rows of the table of frames.
-- Assumes nothing.
use mathlib.Core.Path.{◌≡◌, refl}
use mathlib.Core.Bool.{Bool, true, false, cond, ◌&&◌}
use mathlib.Core.List.{List}
use Prim.Native.Nat.{ℕ}
use native.Mathlib.Omega.{arith}
use borrow.Author.Tests.{eqb-true}
use lib.Dec.{eqb, leb}
use lib.ListN.{length, drop, length-drop}
use Rattle.wire.proofs.Both.{both}
use Rattle.paper.specs.Frames.{Channel, cdmu_a, cdmu_b, Frame, broadcast, command, tick, sample, poll, status, analogue, faulty, byte, kind, on_channel, frame_of}

-- a row: of the frame that it makes, and of what comes where it does not fit
module _ (P : Frame → Type 0) where
  pub either : (c : Bool) (a b : Frame) → (c ≡ true → P a) → P b → P (cond c a b)
  either true a b p q = p refl
  either false a b p q = q

  pub sided : (cc : ℕ) (made : Channel → Frame) → ((c : Channel) → P (made c)) → P faulty → P (on_channel cc made)
  unfolding on_channel
  sided cc made h n =
      either (eqb cc 0x0A) (made cdmu_a) (cond (eqb cc 0x0B) (made cdmu_b) faulty) (λ e. h cdmu_a)
      (either (eqb cc 0x0B) (made cdmu_b) faulty (λ e. h cdmu_b) n)

-- A frame 07 has 58 bytes; and Q holds of a sample's.
abbrev pub Shaped : (List ℕ → Type 0) → Frame → Type 0
Shaped Q (broadcast cc time altitude spin phase) = Unit {0}
Shaped Q (command cc id sequence parameters) = Unit {0}
Shaped Q (tick r) = Unit {0}
Shaped Q (sample s x) = Q x
Shaped Q (poll cc) = Unit {0}
Shaped Q (status cc low flags) = Unit {0}
Shaped Q (analogue bytes) = length bytes ≡ 58
Shaped Q faulty = Unit {0}

pub shaped : (Q : List ℕ → Type 0) (f : List ℕ) → Q (drop 2 f) → Shaped Q (frame_of f)
unfolding frame_of
shaped Q f q =
    either (Shaped Q) (kind f 1 && eqb (length f) 8) _ _ (λ e. sided (Shaped Q) (byte f 1) _ (λ cc. tt) tt)
    (either (Shaped Q) (kind f 2 && leb 6 (length f)) _ _ (λ e. sided (Shaped Q) (byte f 1) _ (λ cc. tt) tt)
    (either (Shaped Q) (kind f 3 && eqb (length f) 3) _ _ (λ e. tt)
    (either (Shaped Q) (kind f 4 && leb 2 (length f)) _ _ (λ e. q)
    (either (Shaped Q) (kind f 5 && eqb (length f) 2) _ _ (λ e. sided (Shaped Q) (byte f 1) _ (λ cc. tt) tt)
    (either (Shaped Q) (kind f 6 && eqb (length f) 4) _ _ (λ e. sided (Shaped Q) (byte f 1) _ (λ cc. tt) tt)
    (either (Shaped Q) (kind f 7 && eqb (length f) 59) _ _
    (λ e. omega (arith, eqb-true (length f) 59 (both (kind f 7) _ e).1, length-drop 1 f)) tt))))))
