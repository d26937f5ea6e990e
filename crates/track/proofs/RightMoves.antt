-- Each move, with the record that it leaves, is right: case by case, from the tests that the code makes.
-- Assumes nothing.
use mathlib.Core.Bool.{Bool, true, false, ◌&&◌, ◌||◌}
use mathlib.Core.List.{List}
use mathlib.Core.Path.{◌≡◌, refl}
use Prim.Native.Nat.{ℕ, ◌-◌, ◌<◌}
use native.Mathlib.Omega.{arith}
use lib.Dec.{eqb}
use Rattle.std.proofs.lemmas.Grind.{common_steps}
use Rattle.paper.specs.Reader as paper
use Rattle.track.specs.declared.Track.{Track}
use Rattle.track.specs.declared.Move.{Move}
use Rattle.track.specs.declared.Move.TheVariants.{Repeat, Dropped, Kept, Finished}
use Rattle.track.specs.Moves.{Moved, tracked, meant, InRange, Right}

-- a move with the record that it leaves
abbrev pub left : Move → ℕ → ℕ → Bool → Moved
left step last place running = record { track = record { last = last; place = place; running = running }; step = step }

-- ---- the moves, for pieces of any form

module _ (t : Track) (k count d : ℕ) (de : d ≡ paper.distance t.last count) where
  pub repeats : {A : Type 0} (g : List A) (x : A) → d ≡ 0 → paper.arrive k (tracked t g) count x ≡ paper.repeated
  unfolding paper.arrive
  repeats g x e = grind (arith, common_steps)

  pub right_repeat : InRange t k count → d ≡ 0 → Right t k count (left Repeat t.last t.place t.running)
  right_repeat ok e = record { means = λ g x. repeats g x e; stays = λ _. refl; last = ok.last; place = ok.place }

module _ (t : Track) (k count d place : ℕ) (de : d ≡ paper.distance t.last count) (pe : place ≡ paper.placed k t.place d) where
  -- what the code's tests decide
  abbrev Gathered : Bool → Type 0
  Gathered b = (eqb place 0 || (eqb d 1 && t.running)) ≡ b

  pub drops : {A : Type 0} (g : List A) (x : A) → (d ≡ 0 → ⊥) → Gathered false
      → paper.arrive k (tracked t g) count x ≡ meant Dropped (left Dropped count place false).track g x
  unfolding paper.arrive
  drops g x n e = grind (arith, common_steps)

  pub keeps : {A : Type 0} (g : List A) (x : A) → (d ≡ 0 → ⊥) → Gathered true → (place ≡ k - 1 → ⊥)
      → paper.arrive k (tracked t g) count x ≡ meant Kept (left Kept count place true).track g x
  unfolding paper.arrive
  keeps g x n e l = grind (arith, common_steps)

  pub finishes : {A : Type 0} (g : List A) (x : A) → (d ≡ 0 → ⊥) → Gathered true → place ≡ k - 1
      → paper.arrive k (tracked t g) count x ≡ meant Finished (left Finished count place false).track g x
  unfolding paper.arrive
  finishes g x n e l = grind (arith, common_steps)

  -- the moves are right
  module _ (ok : InRange t k count) (below : place < k) where
    pub right_dropped : (d ≡ 0 → ⊥) → Gathered false → Right t k count (left Dropped count place false)
    right_dropped n e = record { means = λ g x. drops g x n e; stays = λ z. cc; last = ok.count; place = below }

    pub right_kept : (d ≡ 0 → ⊥) → Gathered true → (place ≡ k - 1 → ⊥) → Right t k count (left Kept count place true)
    right_kept n e l = record { means = λ g x. keeps g x n e l; stays = λ z. cc; last = ok.count; place = below }

    pub right_finished : (d ≡ 0 → ⊥) → Gathered true → place ≡ k - 1 → Right t k count (left Finished count place false)
    right_finished n e l = record { means = λ g x. finishes g x n e l; stays = λ z. cc; last = ok.count; place = below }
