-- What the functions' contracts rest on: fill bytes one at a time, and a packet's marks as its front and its end.
-- Assumes nothing.
use mathlib.Core.Path.{◌≡◌, refl, sym, ap, ◌∙◌}
use mathlib.Core.Bool.{Bool, ◌&&◌}
use mathlib.Core.List.{List, [], ◌∷◌}
use Prim.Native.Nat.{ℕ, ◌+◌, ◌-◌, ◌*◌, ◌≤◌}
use native.Mathlib.Omega.{arith}
use lib.Dec.{eqb}
use lib.ListN.{length, get_or, take, drop}
use lib.Pointwise.{pointwise}
use Rattle.std.proofs.lemmas.Grind.{common_steps}
use Rattle.std.proofs.lemmas.List.{take-take, drop-take, drop_more, length-take-le}
use Rattle.std.specs.List.{list_all, starts_with, ends_with}
use Rattle.paper.specs.Streams.{pieces, listed}
use Rattle.paper.specs.Packets.{opening, closing}
use Rattle.paper.specs.Reader.{stands, all99, sound}
use Rattle.paper.proofs.Table.{Carried, carried_rules}
use Rattle.streams.specs.declared.Stream.{Stream}
use Rattle.streams.specs.Meaning.{number}
use Rattle.streams.proofs.Numbers.{number_carried}

-- the test of all bytes, as the library says it
fill_bytes : (s : List ℕ) → list_all (λ (x : ℕ). eqb x 0x99) s ≡ all99 s
fill_bytes [] = refl
fill_bytes (x ∷ s) = ap (λ (b : Bool). eqb x 0x99 && b) (fill_bytes s)

turned : (a b : ℕ) → eqb a b ≡ eqb b a
turned a b = grind (arith, common_steps)

-- bytes that stand at an offset, as the library compares them
stands_there : (x : List ℕ) (at : ℕ) (bs : List ℕ) → at + length bs ≤ length x
    → stands x at bs ≡ pointwise eqb bs (take (length bs) (drop at x))
stands_there x at [] h = refl
stands_there x at (b ∷ bs) h =
    rw (drop_more x at 0 (omega (arith, h)), turned b (get_or x at 0), stands_there x (at + 1) bs (omega (arith, h)))

module _ (stream : Stream) where
  r : Carried (number stream)
  r = carried_rules (number stream) (number_carried stream)

  -- the listed length fits the pieces
  pub listed_fits : listed (number stream) ≤ pieces (number stream) * 118
  listed_fits = r.fits

  -- "opening, closing or fill bytes": the listed bytes begin and end with their marks, and the rest is fill
  pub sound_parts : (x : List ℕ) → length x ≡ 118 * pieces (number stream)
      → sound (number stream) x
      ≡ (starts_with eqb (take (listed (number stream)) x) opening
      && (ends_with eqb (take (listed (number stream)) x) closing
      && list_all (λ (b : ℕ). eqb b 0x99) (drop (listed (number stream)) x)))
  unfolding sound
  sound_parts x e =
      let l : ℕ = listed (number stream) in
      let most : l ≤ length x = omega (arith, r.fits, e) in
      let front : stands x 0 opening ≡ starts_with eqb (take l x) opening =
      stands_there x 0 opening (omega (arith, r.long, most)) ∙ ap (pointwise eqb opening) (sym (take-take 2 l x (omega (arith, r.long)))) in
      let sum : l ≡ l - 2 + 2 = omega (arith, r.long) in
      let last : take 2 (drop (l - 2) x) ≡ drop (length (take l x) - 2) (take l x) =
      sym (rw (length-take-le l x most) (ap (λ (n : ℕ). drop (l - 2) (take n x)) sum ∙ drop-take (l - 2) 2 x)) in
      let end : stands x (l - 2) closing ≡ ends_with eqb (take l x) closing =
      stands_there x (l - 2) closing (omega (arith, r.long, most)) ∙ ap (pointwise eqb closing) last in
      rw (front, end, fill_bytes (drop l x)) refl
