-- What holds of every element of a list.
-- Assumes nothing.
use mathlib.Core.Bool.{Bool, true, false, cond}
use mathlib.Core.List.{List, [], ◌∷◌, ◌++◌}
use Prim.Native.Nat.{ℕ, zero, suc}
use lib.ListN.{drop}
use Rattle.paper.specs.Queue.{Piece, without}

module _ {A : Type 0} (P : A → Type 0) where
  abbrev pub All : List A → Type 0
  All [] = Unit {0}
  All (x ∷ xs) = P x × All xs

  pub all_append : (xs ys : List A) → All xs → All ys → All (xs ++ ys)
  all_append [] ys a b = b
  all_append (x ∷ xs) ys a b = (a.0, all_append xs ys a.1 b)

  pub all_drop : (n : ℕ) (xs : List A) → All xs → All (drop n xs)
  all_drop zero xs a = a
  all_drop (suc n) [] a = a
  all_drop (suc n) (x ∷ xs) a = all_drop n xs a.1

-- of the pieces that wait, and so of those that a clear leaves
pub all_without : {A : Type 0} (P : Piece A → Type 0) (f : ℕ → Bool) (q : List (Piece A)) → All P q → All P (without f q)
unfolding without
all_without P f [] a = tt
all_without {A} P f (p ∷ q) a = at (f p.stream) (all_without P f q a.1)
  where
    at : (b : Bool) → All P (without f q) → All P (cond b (without f q) (p ∷ without f q))
    at true r = r
    at false r = (a.0, r)
