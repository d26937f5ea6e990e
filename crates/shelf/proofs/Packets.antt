-- What the bytes of a packet say of its fields: the stream is carried, the body is a piece, and whatever is asked of the count
-- holds of it. Assumes nothing.
use mathlib.Core.Path.{◌≡◌, refl}
use mathlib.Core.Bool.{Bool, true, false, cond}
use mathlib.Core.List.{List}
use Prim.Native.Nat.{ℕ, ◌/◌, ◌%◌}
use native.Mathlib.Omega.{arith}
use lib.Dec.{eqb}
use lib.ListN.{length, drop, length-drop}
use borrow.Author.Tests.{eqb-true}
use Rattle.wire.specs.Wire.{be16}
use Rattle.paper.specs.Streams.{carried}
use Rattle.paper.specs.Reader.{Packet, packet, not_carried, no_packet, well_formed, packet_of}
use Rattle.wire.proofs.Both.{both}

abbrev pub Shaped : (ℕ → Type 0) → Packet → Type 0
Shaped P (packet t count x) = (carried t ≡ true) × P count × (length x ≡ 118)
Shaped P not_carried = Unit {0}
Shaped P no_packet = Unit {0}

pub long-enough : (f : List ℕ) → well_formed f ≡ true → length f ≡ 126
unfolding well_formed
long-enough f e = eqb-true (length f) 126 (both (eqb (length f) 126) _ e).0

pub shaped : (P : ℕ → Type 0) (f : List ℕ) → P (be16 f 6 / 16) → Shaped P (packet_of f)
unfolding packet_of
shaped P f p = at (well_formed f) refl (carried (be16 f 6 % 16)) refl
  where
    at : (w : Bool) → well_formed f ≡ w → (c : Bool) → carried (be16 f 6 % 16) ≡ c
        → Shaped P (cond w (cond c (packet (be16 f 6 % 16) (be16 f 6 / 16) (drop 8 f)) not_carried) no_packet)
    at true w true c = (c, p, omega (arith, length-drop 8 f, long-enough f w))
    at true w false c = tt
    at false w c d = tt

-- nothing asked of the count
abbrev pub Any : ℕ → Type 0
Any n = Unit {0}
