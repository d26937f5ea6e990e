-- Document 01, "Streams and packets": pieces that wait, their counts, and clearing.
-- Assumes nothing.
use Rattle.std.specs.Prelude.{Bool, cond, List, [], ◌∷◌, ℕ, ◌+◌, ◌-◌, ◌%◌, eqb, length}

-- A piece that waits: its stream, its count there, its body (118 bytes; of any form here).
pub record Piece (A : Type 0) : Type 0 where
  pub stream : ℕ
  pub count : ℕ
  pub body : A

abbrev pub piece : {A : Type 0} → ℕ → ℕ → A → Piece A
piece s n x = record { stream = s; count = n; body = x }

-- "the queue has 48 slots, first in first out"
abbrev pub slots : ℕ
slots = 48

abbrev pub free : {A : Type 0} → List (Piece A) → ℕ
free q = slots - length q

-- "Each piece takes its stream's count when queued, from 0, modulo 4096 (ours)"
abbrev pub wrap : ℕ → ℕ
wrap n = (n + 1) % 4096

-- The pieces of one packet, numbered from n on, and the number that follows. How a number goes on is a parameter: the
-- controller's counts go on by `wrap`, and claims about histories number pieces without end.
unfoldable pub numbered : {A : Type 0} → (ℕ → ℕ) → ℕ → ℕ → List A → List (Piece A)
numbered on s n [] = []
numbered on s n (x ∷ xs) = piece s n x ∷ numbered on s (on n) xs

unfoldable pub after : {A : Type 0} → (ℕ → ℕ) → ℕ → List A → ℕ
after on n [] = n
after on n (x ∷ xs) = after on (on n) xs

-- what is kept for each stream, with the one of stream s replaced
unfoldable pub replaced : {X : Type 0} → (ℕ → X) → ℕ → X → ℕ → X
replaced of s x t = cond (eqb s t) x (of t)

-- "Open samples and waiting pieces of named streams go, the rest keep their order, slots are free again."
unfoldable pub without : {A : Type 0} → (ℕ → Bool) → List (Piece A) → List (Piece A)
without named [] = []
without named (p ∷ ps) = cond (named p.stream) (without named ps) (p ∷ without named ps)
