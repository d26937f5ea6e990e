-- What `Right` fixes: no second move and record are right, and what they mean holds for pieces of any form.
-- Assumes nothing.
use mathlib.Core.Bool.{Bool, true, false, ◌&&◌, ◌||◌}
use mathlib.Core.List.{List, [], ◌∷◌}
use mathlib.Core.Path.{◌≡◌, refl, sym, ◌∙◌}
use Prim.Native.Nat.{ℕ, ◌+◌, ◌-◌, ◌<◌}
use native.Mathlib.Nat.{mod-lt}
use borrow.Author.Tests.{eqb-true, eqb-false}
use lib.Dec.{eqb}
use Rattle.paper.specs.Reader as paper
use Rattle.paper.specs.Reader.{ArrivalEffect, repeated, taken, finished}
use Rattle.track.specs.declared.Track.{Track}
use Rattle.track.specs.declared.Move.{Move}
use Rattle.track.specs.declared.Move.TheVariants.{Repeat, Dropped, Kept, Finished}
use Rattle.track.specs.Moves.{Moved, tracked, with_piece, meant, InRange, Right}
use Rattle.track.proofs.RightMoves.{repeats, drops, keeps, finishes, right_repeat, right_dropped, right_kept, right_finished}

-- the record that an arrival leaves is read off it, but for a repeat
abbrev record_of : {A : Type 0} → Track → ArrivalEffect A → Track
record_of t repeated = t
record_of t (taken u) = record { last = u.last; place = u.place; running = u.running }
record_of t (finished u g) = record { last = u.last; place = u.place; running = u.running }

-- so is the move: a piece was kept where anything is gathered
abbrev kept_of : {A : Type 0} → List A → Move
kept_of [] = Dropped
kept_of (x ∷ xs) = Kept

abbrev move_of : {A : Type 0} → ArrivalEffect A → Move
move_of repeated = Repeat
move_of (taken u) = kept_of u.gathered
move_of (finished u g) = Finished

kept_one : (b : Bool) (x : List ℕ) → kept_of (with_piece b [] x) ≡ Kept
kept_one true x = refl
kept_one false x = refl

reads_move : (m : Move) (t : Track) (x : List ℕ) → move_of (meant m t [] x) ≡ m
reads_move Repeat t x = refl
reads_move Dropped t x = refl
reads_move Kept t x = kept_one (eqb t.place 0) x
reads_move Finished t x = refl

reads_record : (m : Move) (t before : Track) (x : List ℕ) → (m ≡ Repeat → t ≡ before) → record_of before (meant m t [] x) ≡ t
reads_record Repeat t before x s = sym (s refl)
reads_record Dropped t before x s = refl
reads_record Kept t before x s = refl
reads_record Finished t before x s = refl

module _ (t : Track) (k count : ℕ) where
  -- the move and the record, read off the paper's `arrive`
  abbrev read_off : Moved
  read_off =
      let a : ArrivalEffect (List ℕ) = paper.arrive k (tracked t []) count [] in
      record { track = record_of t a; step = move_of a }

  read_off_lem : (r : Moved) → Right t k count r → read_off ≡ r
  read_off_lem r right =
      let track : record_of {A = List ℕ} t (paper.arrive k (tracked t []) count []) ≡ r.track =
      rw (right.means [] []) (reads_record r.step r.track t [] right.stays) in
      let step : move_of {A = List ℕ} (paper.arrive k (tracked t []) count []) ≡ r.step =
      rw (right.means [] []) (reads_move r.step r.track []) in
      λ i. record { track = track i; step = step i }

  -- no second outcome is right
  pub only : (r s : Moved) → Right t k count r → Right t k count s → r ≡ s
  only r s a b = sym (read_off_lem r a) ∙ read_off_lem s b

  -- pieces of any form: the outcome that the tests decide is right, so it is this one, and its law is for any form
  module _ (ok : InRange t k count) (r : Moved) (right : Right t k count r) {A : Type 0} (g : List A) (x : A) where
    abbrev d : ℕ
    d = paper.distance t.last count

    abbrev place : ℕ
    place = paper.placed k t.place d

    abbrev below : place < k
    below = mod-lt (t.place + d) ok.some

    same : (s : Moved) → Right t k count s → paper.arrive k (tracked t g) count x ≡ meant s.step s.track g x
        → paper.arrive k (tracked t g) count x ≡ meant r.step r.track g x
    same s right' e = rw (only r s right right') e

    decided : (a b c : Bool) → eqb d 0 ≡ a → (eqb place 0 || (eqb d 1 && t.running)) ≡ b → eqb place (k - 1) ≡ c
        → paper.arrive k (tracked t g) count x ≡ meant r.step r.track g x
    decided true b c p q s =
        same _ (right_repeat t k count d refl ok (eqb-true d 0 p)) (repeats t k count d refl g x (eqb-true d 0 p))
    decided false false c p q s =
        same _ (right_dropped t k count d place refl refl ok below (eqb-false d 0 p) q) (drops t k count d place refl refl g x (eqb-false d 0 p) q)
    decided false true false p q s =
        same _ (right_kept t k count d place refl refl ok below (eqb-false d 0 p) q (eqb-false place (k - 1) s))
        (keeps t k count d place refl refl g x (eqb-false d 0 p) q (eqb-false place (k - 1) s))
    decided false true true p q s =
        same _ (right_finished t k count d place refl refl ok below (eqb-false d 0 p) q (eqb-true place (k - 1) s))
        (finishes t k count d place refl refl g x (eqb-false d 0 p) q (eqb-true place (k - 1) s))

    pub everywhere : paper.arrive k (tracked t g) count x ≡ meant r.step r.track g x
    everywhere = decided _ _ _ refl refl refl
