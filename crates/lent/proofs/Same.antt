-- Two lists that agree on some bytes: a store elsewhere leaves them so, and numbers and parts that are read there are the same.
-- Assumes nothing.
use mathlib.Core.Path.{◌≡◌, refl, ◌∙◌}
use mathlib.Core.List.{List, [], ◌∷◌, ◌++◌}
use mathlib.Core.Logic.{◌⊎◌, ⊎_elim}
use Prim.Native.Nat.{ℕ, zero, suc, ◌+◌, ◌*◌, ◌≤◌, ◌<◌}
use native.Mathlib.Nat.{zero-mul, suc-mul}
use native.Mathlib.Omega.{arith}
use lib.ListN.{length, drop, get_or}
use lib.Seq.{drop-drop}
use Rattle.wire.specs.Wire.{be16, be24, part, put}
use Rattle.wire.proofs.Runs.{part_ext, get_or-put_before, get_or-put_after}
use Rattle.paper.specs.Packets.{chunks}

-- ---- two lists that agree on the bytes from lo to below hi

pub record Same (x y : List ℕ) (lo hi : ℕ) : Type 0 where
  pub byte : (i : ℕ) → lo ≤ i → i < hi → get_or x i 0 ≡ get_or y i 0

pub same_refl : (x : List ℕ) (lo hi : ℕ) → Same x x lo hi
same_refl x lo hi = record { byte = λ i l h. refl }

pub same_trans : {x y z : List ℕ} {lo hi : ℕ} → Same x y lo hi → Same y z lo hi → Same x z lo hi
same_trans p q = record { byte = λ i l h. p.byte i l h ∙ q.byte i l h }

-- and so on fewer bytes
pub same-within : {x y : List ℕ} {lo hi : ℕ} (from to : ℕ) → Same x y lo hi → lo ≤ from → to ≤ hi → Same x y from to
same-within from to p l h = record { byte = λ i a b. p.byte i (omega arith) (omega arith) }

-- a run that ends at or before lo, or begins at or after hi
abbrev pub Outside : ℕ → List ℕ → ℕ → ℕ → Type 0
Outside at v lo hi = (at + length v ≤ lo) ⊎ (hi ≤ at)

pub put_same : (s : List ℕ) (at : ℕ) (v : List ℕ) → at + length v ≤ length s → (lo hi : ℕ) → Outside at v lo hi
    → Same (put s at v) s lo hi
put_same s at v fits lo hi =
    ⊎_elim (λ b. record { byte = λ i l h. get_or-put_after s at v fits i (omega arith) })
    (λ b. record { byte = λ i l h. get_or-put_before s at v fits i (omega arith) })

-- numbers and parts there
module _ {x y : List ℕ} {lo hi : ℕ} (p : Same x y lo hi) where
  pub be16-same : (at : ℕ) → lo ≤ at → at + 1 < hi → be16 x at ≡ be16 y at
  be16-same at l h = omega (arith, p.byte at l (omega arith), p.byte (at + 1) (omega arith) h)

  pub be24-same : (at : ℕ) → lo ≤ at → at + 2 < hi → be24 x at ≡ be24 y at
  be24-same at l h =
      omega (arith, p.byte at l (omega arith), p.byte (at + 1) (omega arith) (omega arith), p.byte (at + 2) (omega arith) h)

  pub part_same : (i m : ℕ) → lo ≤ i → i + m ≤ hi → i + m ≤ length x → i + m ≤ length y → part x i m ≡ part y i m
  part_same i m l h a b = part_ext x y i m a b (λ j c. p.byte (i + j) (omega arith) (omega arith))

  -- chunks of a drop depend on the bytes that they read
  pub chunks-same : (w n i : ℕ) → lo ≤ i → i + n * w ≤ hi → i + n * w ≤ length x → i + n * w ≤ length y
      → chunks w n (drop i x) ≡ chunks w n (drop i y)
  chunks-same w zero i l h a b = refl
  chunks-same w (suc n) i l h a b =
      let e : i + suc n * w ≡ i + w + n * w = rw (suc-mul n w) (omega arith) in
      let head : part x i w ≡ part y i w = part_same i w l (omega arith) (omega arith) (omega arith) in
      let rest : chunks w n (drop (i + w) x) ≡ chunks w n (drop (i + w) y) =
      chunks-same w n (i + w) (omega arith) (omega arith) (omega arith) (omega arith) in
      rw (head, drop-drop w i x, drop-drop w i y, rest)

-- one chunk more
pub chunks_snoc : (w n : ℕ) (l : List ℕ) → chunks w (suc n) l ≡ chunks w n l ++ (part l (n * w) w ∷ [])
chunks_snoc w zero l = rw (zero-mul w)
chunks_snoc w (suc n) l =
    let e : w + n * w ≡ suc n * w = rw (suc-mul n w) (omega arith) in
    rw (chunks_snoc w n (drop w l), drop-drop (n * w) w l, e)
