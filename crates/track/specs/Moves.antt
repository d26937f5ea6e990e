-- What a move and the record after it mean in the words of document 01, "Reader".
-- Assumes nothing.
use Rattle.std.specs.Prelude.{Bool, true, false, List, [], ◌∷◌, ◌++◌, ◌≡◌, ℕ, ◌<◌, eqb}
use Rattle.paper.specs.Reader as paper
use Rattle.paper.specs.Reader.{ArrivalEffect, repeated, taken, finished}
use Rattle.track.specs.declared.Track.{Track}
use Rattle.track.specs.declared.Move.{Move}
use Rattle.track.specs.declared.Move.TheVariants.{Repeat, Dropped, Kept, Finished}

-- a move, and the record after it
pub record Moved : Type 0 where
  pub track : Track
  pub step : Move

-- the paper's record: this one, and the pieces gathered so far
abbrev pub tracked : {A : Type 0} → Track → List A → paper.Track A
tracked t g = record { last = t.last; place = t.place; running = t.running; gathered = g }

-- "at place 0 gathering starts anew": the pieces with one more, gathered at its place
abbrev pub with_piece : {A : Type 0} → Bool → List A → A → List A
with_piece true g x = x ∷ []
with_piece false g x = g ++ (x ∷ [])

-- what each move is to the paper: the record after it is t, the pieces before it are g, the piece that arrived is x
abbrev pub meant : {A : Type 0} → Move → Track → List A → A → ArrivalEffect A
meant Repeat t g x = repeated
meant Dropped t g x = taken (tracked t [])
meant Kept t g x = taken (tracked t (with_piece (eqb t.place 0) g x))
meant Finished t g x = finished (tracked t []) (with_piece (eqb t.place 0) g x)

-- what the numbers of a record, its stream's pieces and a count are
pub record InRange (t : Track) (k n : ℕ) : Type 0 where
  pub some : 0 < k
  pub place : t.place < k
  pub last : t.last < 4096
  pub count : n < 4096

-- the move and the record after it that are right: they mean what the paper's `arrive` gives, a repeat leaves the record as it
-- was, and the record after is in range again. A contract's facts are small, so the pieces here are the paper's, lists of bytes;
-- `everywhere` of proofs/Only.antt says it for pieces of any form, and `only` that no second outcome is right.
pub record Right (t : Track) (k count : ℕ) (r : Moved) : Type 0 where
  pub means : (g : List (List ℕ)) (x : List ℕ) → paper.arrive k (tracked t g) count x ≡ meant r.step r.track g x
  pub stays : r.step ≡ Repeat → r.track ≡ t
  pub last : r.track.last < 4096
  pub place : r.track.place < k
