-- The mark in front: the test is true where the facts hold, and only there; other marks are refused; and what blank bytes are.
-- Assumes nothing.
use mathlib.Core.Path.{◌≡◌, refl, sym, ap, ◌∙◌}
use mathlib.Core.Bool.{Bool, true, false, ◌&&◌}
use mathlib.Core.List.{List}
use Prim.Native.Nat.{ℕ, zero, suc, ◌+◌, ◌-◌, ◌*◌, ◌/◌, ◌%◌, ◌≤◌, ◌<◌}
use native.Mathlib.Omega.{arith}
use lib.Dec.{eqb, leb}
use lib.ListN.{length, drop, get_or, replicate, length-drop, length-replicate, get_or-append}
use lib.Seq.{get_or-drop, ext_get_or}
use borrow.Author.Tests.{leb-true, le-leb, eqb-true, eqb-false, eq-eqb, ne_eqb}
use Rattle.wire.specs.Wire.{be16, bytes16, put}
use Rattle.wire.proofs.Both.{both}
use Rattle.wire.proofs.Runs.{length-put, get_or-put_after, be16-put-same}
use Rattle.lent.specs.Fitting.{mark_at, fitting, Fitting, blank_on}
use Rattle.lent.proofs.Same.{Same, be16-same}

-- ---- the test

neither : (a b : Bool) → b ≡ false → (a && b) ≡ false
neither true b h = h
neither false b h = refl

module _ (bytes mark : ℕ) (s : List ℕ) where
  pub fitting_true : fitting bytes mark s ≡ true → Fitting bytes mark s
  unfolding fitting
  fitting_true h =
      let b = both (leb bytes (length s)) (eqb (be16 s mark_at) mark) h in
      record { whole = leb-true bytes (length s) b.0; mark = eqb-true (be16 s mark_at) mark b.1 }

  pub true_fitting : Fitting bytes mark s → fitting bytes mark s ≡ true
  unfolding fitting
  true_fitting f = rw (le-leb _ _ f.whole, eq-eqb _ _ f.mark)

  -- bytes with another mark are refused, however many they are
  pub other_mark : (be16 s mark_at ≡ mark → ⊥) → fitting bytes mark s ≡ false
  unfolding fitting
  other_mark d = neither (leb bytes (length s)) (eqb (be16 s mark_at) mark) (ne_eqb (be16 s mark_at) mark d)

-- the mark's two bytes, judged one after the other: the first is another, or the second decides
pub other_high : (a b mark : ℕ) → b < 256 → (a ≡ mark / 256 → ⊥) → eqb (a * 256 + b) mark ≡ false
other_high a b mark h d = ne_eqb (a * 256 + b) mark (λ e. d (omega arith))

pub same_high : (a b mark : ℕ) → b < 256 → a ≡ mark / 256 → eqb b (mark % 256) ≡ eqb (a * 256 + b) mark
same_high a b mark h e = at (eqb b (mark % 256)) refl
  where
    at : (t : Bool) → eqb b (mark % 256) ≡ t → t ≡ eqb (a * 256 + b) mark
    at true p = sym (eq-eqb (a * 256 + b) mark (omega (arith, eqb-true b (mark % 256) p)))
    at false p = sym (ne_eqb (a * 256 + b) mark (λ q. eqb-false b (mark % 256) p (omega arith)))

-- bytes fit where they begin as bytes that do
pub fitting-kept : {bytes mark : ℕ} {x y : List ℕ} → Fitting bytes mark y → bytes ≤ length x → Same x y mark_at (mark_at + 2)
    → Fitting bytes mark x
fitting-kept f w p = record { whole = w; mark = be16-same p mark_at (omega arith) (omega arith) ∙ f.mark }

-- ---- zeros

pub get_or-zeros : (n i : ℕ) → get_or {A = ℕ} (replicate n 0) i 0 ≡ 0
get_or-zeros zero i = refl
get_or-zeros (suc n) zero = refl
get_or-zeros (suc n) (suc i) = get_or-zeros n i

-- bytes that are all zero were never started: they have no mark
pub never_started : (bytes mark n : ℕ) → (mark ≡ 0 → ⊥) → fitting bytes mark (replicate n 0) ≡ false
never_started bytes mark n d =
    other_mark bytes mark (replicate n 0)
    (λ e. d (omega (arith, e, get_or-zeros n mark_at, get_or-zeros n (mark_at + 1))))

-- ---- blank bytes

module _ (bytes mark : ℕ) (s : List ℕ) (few : 2 ≤ bytes) (whole : bytes ≤ length s) where
  abbrev zeros : List ℕ
  zeros = replicate bytes 0

  zeros_fit : 0 + length zeros ≤ length s
  zeros_fit = omega (arith, length-replicate {A = ℕ} bytes 0)

  mark-fits : mark_at + 2 ≤ length (put s 0 zeros)
  mark-fits = omega (arith, length-put s 0 zeros zeros_fit)

  pub blank-length : length (blank_on bytes mark s) ≡ length s
  unfolding blank_on
  blank-length = length-put (put s 0 zeros) mark_at (bytes16 mark) mark-fits ∙ length-put s 0 zeros zeros_fit

  pub blank-mark : be16 (blank_on bytes mark s) mark_at ≡ mark
  unfolding blank_on
  blank-mark = be16-put-same (put s 0 zeros) mark_at mark mark-fits

  pub blank_zero : (i : ℕ) → mark_at + 2 ≤ i → i < bytes → get_or (blank_on bytes mark s) i 0 ≡ 0
  unfolding blank_on
  blank_zero i l h =
      get_or-put_after (put s 0 zeros) mark_at (bytes16 mark) mark-fits i (omega arith)
      ∙ get_or-append zeros (drop (0 + length zeros) s) 0 i (omega (arith, length-replicate {A = ℕ} bytes 0))
      ∙ get_or-zeros bytes i

  pub blank_rest : (i : ℕ) → bytes ≤ i → get_or (blank_on bytes mark s) i 0 ≡ get_or s i 0
  unfolding blank_on
  blank_rest i h =
      get_or-put_after (put s 0 zeros) mark_at (bytes16 mark) mark-fits i (omega arith)
      ∙ get_or-put_after s 0 zeros zeros_fit i (omega (arith, length-replicate {A = ℕ} bytes 0))

-- bytes past some number that agree one by one, of lists of one length
pub drop_rest : (n : ℕ) (x s : List ℕ) → length x ≡ length s → ((i : ℕ) → n ≤ i → get_or x i 0 ≡ get_or s i 0)
    → drop n x ≡ drop n s
drop_rest n x s long rest =
    ext_get_or 0 _ _ (length-drop n x ∙ ap (λ (m : ℕ). m - n) long ∙ sym (length-drop n s))
    (λ i b. get_or-drop n x i 0 ∙ rest (n + i) (omega arith) ∙ sym (get_or-drop n s i 0))
