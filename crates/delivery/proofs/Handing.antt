-- "hands out the packet at its listed length": a reader that a run from a fresh start leaves has gathered, of each carried stream,
-- whole pieces up to its place; so whatever it hands out has its stream's listed length.
-- Assumes nothing.
use mathlib.Core.Path.{◌≡◌, refl, sym, ap, ◌∙◌, subst}
use mathlib.Core.Bool.{Bool, true, false, cond, ◌&&◌, false≢true}
use mathlib.Core.List.{List, [], ◌∷◌, ◌++◌}
use Prim.Native.Nat.{ℕ, suc, ◌+◌, ◌-◌, ◌*◌, ◌/◌, ◌%◌, ◌≤◌, ◌<◌}
use native.Mathlib.Nat.{mod-lt, mod-eq_of_lt, mod_self}
use native.Mathlib.Omega.{arith}
use native.Mathlib.Decide.{dec_le}
use lib.Dec.{eqb, ltb}
use lib.ListN.{length, take, drop, length-append, length-drop}
use lib.Seq.{length-take-le}
use borrow.Author.Tests.{eqb-true, eqb-false, ltb-true}
use Rattle.wire.specs.Wire.{be16}
use Rattle.wire.proofs.Both.{both}
use Rattle.paper.specs.Streams.{pieces, listed, carried}
use Rattle.paper.specs.Packets.{joined}
use Rattle.paper.specs.Queue.{replaced}
use Rattle.paper.specs.Reader.{Track, distance, placed, ArrivalEffect, repeated, taken, finished, gathers, moves, arrives, arrive, Packet, packet, not_carried, no_packet, well_formed, packet_of, sound, Reader, reader_start, ReaderOutcome, reader_outcome, received, understood, reader_step}
use Rattle.paper.specs.Runs.{Call, readings}
use Rattle.delivery.specs.HandedOut.{handed_out}
use Rattle.paper.proofs.All.{All}
use Rattle.paper.proofs.Kept.{Full}
use Rattle.paper.proofs.Table.{carried_rules}
use Rattle.delivery.proofs.Reading.{stream-of}

full_snoc : (g : List (List ℕ)) (x : List ℕ) → Full g → length x ≡ 118 → Full (g ++ (x ∷ []))
full_snoc [] x f e = (e, tt)
full_snoc (y ∷ g) x f e = (f.0, full_snoc g x f.1 e)

length-joined : (g : List (List ℕ)) → Full g → length (joined g) ≡ length g * 118
length-joined [] f = refl
length-joined (x ∷ g) f = omega (arith, length-append x (joined g), f.0, length-joined g f.1)

-- the record of a stream of k pieces
record Sized (k : ℕ) (t : Track (List ℕ)) : Type 0 where
  within : t.place < k
  many : t.running ≡ true → length t.gathered ≡ suc t.place
  full : Full t.gathered

-- what an arrival leaves, and finishes
abbrev Sizes : ℕ → ArrivalEffect (List ℕ) → Type 0
Sizes k repeated = Unit {0}
Sizes k (taken t) = Sized k t
Sizes k (finished t g) = Sized k t × (length g ≡ k) × Full g

module _ (k : ℕ) (kp : 0 < k) (count : ℕ) (x : List ℕ) (long : length x ≡ 118) where
  sizes-gathers : (b : Bool) (place : ℕ) (g : List (List ℕ)) → eqb place (k - 1) ≡ b → place < k → length g ≡ suc place → Full g
      → Sizes k (gathers b count place g)
  sizes-gathers true place g e l m f =
      (record { within = l; many = λ h. absurd (false≢true h); full = tt }, omega (arith, eqb-true place (k - 1) e), f)
  sizes-gathers false place g e l m f = record { within = l; many = λ h. m; full = f }

  -- the place after one more, where it is not the first
  next_place : (place : ℕ) → place < k → eqb (placed k place 1) 0 ≡ false → placed k place 1 ≡ suc place
  next_place place l e =
      elim (dec_le k (place + 1))
      [ yes h ↦ absurd (eqb-false (placed k place 1) 0 e (ap (λ (n : ℕ). n % k) (let r : place + 1 ≡ k = omega arith in r) ∙ mod_self k)) | no h ↦ mod-eq_of_lt (omega arith) ∙ omega arith ]

  sizes-moves : (t : Track (List ℕ)) → Sized k t → (d : ℕ) (anew going_on : Bool) → eqb (placed k t.place d) 0 ≡ anew
      → (eqb d 1 && t.running) ≡ going_on
      → Sizes k (moves anew going_on (eqb (placed k t.place d) (k - 1)) count (placed k t.place d) t.gathered x)
  sizes-moves t z d true going_on a g =
      sizes-gathers _ (placed k t.place d) (x ∷ []) refl (mod-lt (t.place + d) kp) (ap suc (sym (eqb-true _ 0 a))) (long, tt)
  sizes-moves t z d false true a g =
      let one : d ≡ 1 = eqb-true d 1 (both (eqb d 1) t.running g).0 in
      let next : placed k t.place d ≡ suc t.place = ap (placed k t.place) one ∙ next_place t.place z.within (rw one at a) in
      sizes-gathers _ (placed k t.place d) (t.gathered ++ (x ∷ [])) refl (mod-lt (t.place + d) kp)
      (length-append t.gathered (x ∷ []) ∙ omega (arith, z.many (both (eqb d 1) t.running g).1, next))
      (full_snoc t.gathered x z.full long)
  sizes-moves t z d false false a g =
      record { within = mod-lt (t.place + d) kp; many = λ h. absurd (false≢true h); full = tt }

  sizes-arrive : (t : Track (List ℕ)) → Sized k t → Sizes k (arrive k t count x)
  unfolding arrive
  sizes-arrive t z = by (eqb (distance t.last count) 0)
    where
      by : (b : Bool) → Sizes k (arrives b k t count (distance t.last count) x)
      by true = tt
      by false = sizes-moves t z (distance t.last count) _ _ refl refl

-- ---- the reader

abbrev Ordered : Reader → Type 0
Ordered r = (t : ℕ) → carried t ≡ true → Sized (pieces t) (r t)

-- what a call hands out, of stream s
abbrev Listed : ℕ → ReaderOutcome → Type 0
Listed s h = h.reply ≡ 1 → length h.out ≡ listed s

ordered_put : (r : Reader) (s : ℕ) (t : Track (List ℕ)) → Ordered r → Sized (pieces s) t → Ordered (replaced r s t)
unfolding replaced
ordered_put r s t o z u c = by (eqb s u) refl
  where
    by : (b : Bool) → eqb s u ≡ b → Sized (pieces u) (cond b t (r u))
    by true e = subst (λ (v : ℕ). Sized (pieces v) t) (eqb-true s u e) z
    by false e = o u c

unlike : (n : ℕ) → eqb n 1 ≡ false → {X : Type 0} → n ≡ 1 → X
unlike n e h = absurd (eqb-false n 1 e h)

received-listed : (r : Reader) (s : ℕ) (a : ArrivalEffect (List ℕ)) → carried s ≡ true → Ordered r → Sizes (pieces s) a
    → Ordered (received r s a).next × Listed s (received r s a)
unfolding received
received-listed r s repeated c o z = (o, unlike 22 refl)
received-listed r s (taken t) c o z = (ordered_put r s t o z, unlike 0 refl)
received-listed r s (finished t g) c o z = by (sound s (joined g))
  where
    fits : listed s ≤ length (joined g)
    fits = omega (arith, (carried_rules s c).fits, length-joined g z.2, ap (λ (n : ℕ). n * 118) z.1)

    by : (b : Bool)
        → Ordered (cond b (reader_outcome 1 (take (listed s) (joined g)) (replaced r s t)) (reader_outcome 23 [] (replaced r s t))).next
        × Listed s (cond b (reader_outcome 1 (take (listed s) (joined g)) (replaced r s t)) (reader_outcome 23 [] (replaced r s t)))
    by true = (ordered_put r s t o z.0, λ h. length-take-le (listed s) (joined g) fits)
    by false = (ordered_put r s t o z.0, unlike 23 refl)

-- a packet's body has 118 bytes, and its stream is carried
abbrev Sound : Packet → Type 0
Sound (packet s count x) = (carried s ≡ true) × (length x ≡ 118)
Sound not_carried = Unit {0}
Sound no_packet = Unit {0}

packet-sound : (f : List ℕ) → Sound (packet_of f)
unfolding packet_of well_formed
packet-sound f = by (eqb (length f) 126) _ refl (carried (be16 f 6 % 16)) refl
  where
    by : (a b : Bool) → eqb (length f) 126 ≡ a → (d : Bool) → carried (be16 f 6 % 16) ≡ d
        → Sound (cond (a && b) (cond d (packet (be16 f 6 % 16) (be16 f 6 / 16) (drop 8 f)) not_carried) no_packet)
    by true true e true c = (c, omega (arith, length-drop 8 f, eqb-true (length f) 126 e))
    by true true e false c = tt
    by true false e d c = tt
    by false b e d c = tt

understood-listed : (r : Reader) (f : List ℕ) (p : Packet) → packet_of f ≡ p → Sound p → Ordered r
    → Ordered (understood r p).next × Listed (be16 f 6 % 16) (understood r p)
unfolding understood
understood-listed r f (packet s count x) e h o =
    let got =
    received-listed r s (arrive (pieces s) (r s) count x) h.0 o
    (sizes-arrive (pieces s) (ltb-true 0 (pieces s) h.0) count x h.1 (r s) (o s h.0)) in
    (got.0, subst (λ (t : ℕ). Listed t (received r s (arrive (pieces s) (r s) count x))) (sym (stream-of f s count x e)) got.1)
understood-listed r f not_carried e h o = (o, unlike 21 refl)
understood-listed r f no_packet e h o = (o, unlike 20 refl)

step-listed : (r : Reader) (f : List ℕ) (room : ℕ) → Ordered r
    → Ordered (reader_step r f room).next × Listed (be16 f 6 % 16) (reader_step r f room)
unfolding reader_step
step-listed r f room o = by (ltb room 776)
  where
    by : (b : Bool)
        → Ordered (cond b (reader_outcome 24 [] r) (understood r (packet_of f))).next
        × Listed (be16 f 6 % 16) (cond b (reader_outcome 24 [] r) (understood r (packet_of f)))
    by true = (o, unlike 24 refl)
    by false = understood-listed r f (packet_of f) refl (packet-sound f) o

abbrev pub AtLength : List (ℕ × List ℕ) → Type 0
AtLength = All (λ h. length h.1 ≡ listed h.0)

lists : (xs : List Call) (r : Reader) → Ordered r → AtLength (handed_out xs (readings r xs))
unfolding readings handed_out
lists [] r o = tt
lists (x ∷ xs) r o =
    let got = step-listed r x.bytes x.room o in
    by (eqb (reader_step r x.bytes x.room).reply 1) refl got.1 (lists xs (reader_step r x.bytes x.room).next got.0)
  where
    h : ReaderOutcome
    h = reader_step r x.bytes x.room

    by : (b : Bool) → eqb h.reply 1 ≡ b → Listed (be16 x.bytes 6 % 16) h → AtLength (handed_out xs (readings h.next xs))
        → AtLength (cond b ((be16 x.bytes 6 % 16, h.out) ∷ handed_out xs (readings h.next xs)) (handed_out xs (readings h.next xs)))
    by true e l rest = (l (eqb-true h.reply 1 e), rest)
    by false e l rest = rest

-- from a fresh start
pub handed-length : (xs : List Call) → AtLength (handed_out xs (readings reader_start xs))
unfolding reader_start
handed-length xs =
    lists xs reader_start
    (λ t c. record { within = omega (arith, ltb-true 0 (pieces t) c); many = λ h. absurd (false≢true h); full = tt })
