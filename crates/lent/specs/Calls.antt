-- Calls on lent bytes, one after the other: each hands over a frame or packet, and the output that is lent with it.
-- Assumes nothing.
use Rattle.std.specs.Prelude.{List, [], ◌∷◌, ℕ, length}
use Rattle.wire.specs.Wire.{put, Bytes}
use Rattle.paper.specs.Runs.{Call, call}

-- the frames of calls are of bytes; of outputs nothing is asked
abbrev pub Framed : List (List ℕ × List ℕ) → Type 0
Framed [] = Unit {0}
Framed (x ∷ xs) = Bytes x.0 × Framed xs

-- the same calls as document 01 sees them
abbrev pub calls : List (List ℕ × List ℕ) → List Call
calls [] = []
calls (x ∷ xs) = call x.0 (length x.1) ∷ calls xs

-- document 01's replies and bytes, the bytes at the front of each call's output
abbrev pub fronts : List (List ℕ × List ℕ) → List (ℕ × List ℕ) → List (ℕ × List ℕ)
fronts [] ys = []
fronts (x ∷ xs) [] = []
fronts (x ∷ xs) (y ∷ ys) = (y.0, put x.1 0 y.1) ∷ fronts xs ys
