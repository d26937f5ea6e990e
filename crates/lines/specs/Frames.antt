-- The frames that an input stands for: one a line, in order. And what a program says that answers them one after the other.
-- Assumes nothing.
use Rattle.std.specs.Prelude.{ℕ, cond, List, [], ◌∷◌, ◌++◌, map, leb, eqb, length}
use Rattle.wire.specs.Wire.{Bytes}
use Rattle.lines.specs.Hex.{read_hex}
use Rattle.lines.specs.Lines.{bytes_or}
use Rattle.lines.specs.Talk.{Way}

-- a character before the lines of what follows it: it is the first of their first line, or a line of its own where there is none
abbrev pub in_front : ℕ → List (List ℕ) → List (List ℕ)
in_front c [] = (c ∷ []) ∷ []
in_front c (l ∷ ls) = (c ∷ l) ∷ ls

-- the lines of an input: an LF (10) ends each; "a last line may lack it if not empty"
unfoldable pub lines_in : List ℕ → List (List ℕ)
lines_in [] = []
lines_in (c ∷ rest) = cond (eqb c 10) ([] ∷ lines_in rest) (in_front c (lines_in rest))

module _ (longest : ℕ) where
  -- "A faulty or over-long line counts as an empty frame."
  abbrev pub frame_for : List ℕ → List ℕ
  frame_for line = cond (leb (length line) longest) (bytes_or (read_hex line)) []

  -- "one frame a line"
  abbrev pub frames_of : List ℕ → List (List ℕ)
  frames_of input = map frame_for (lines_in input)

-- each of some frames is of bytes
abbrev pub EachOfBytes : List (List ℕ) → Type 0
EachOfBytes [] = Unit {0}
EachOfBytes (f ∷ fs) = Bytes f × EachOfBytes fs

-- the text of the answers to frames, each with the state that the one before left
unfoldable pub answers : Way → List ℕ → List (List ℕ) → List ℕ
answers a s [] = []
answers a s (f ∷ fs) = (a s f).text ++ answers a (a s f).state fs
