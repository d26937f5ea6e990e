-- The reader's replies are document 01's numbers, and only a packet of 126 bytes is handed out with. Assumes nothing.
use mathlib.Core.Path.{◌≡◌, refl}
use mathlib.Core.Bool.{Bool, true, false, cond}
use mathlib.Core.List.{List, []}
use Prim.Native.Nat.{ℕ, ◌/◌, ◌%◌, ◌≤◌}
use native.Mathlib.Omega.{arith}
use lib.Dec.{ltb}
use lib.ListN.{length, take, drop}
use Rattle.wire.specs.Wire.{be16}
use Rattle.paper.specs.Streams.{pieces, listed, carried}
use Rattle.paper.specs.Packets.{joined}
use Rattle.paper.specs.Queue as Queue
use Rattle.paper.specs.Reader.{ArrivalEffect, repeated, taken, finished, arrive, Packet, packet, not_carried, no_packet, well_formed, packet_of, sound, Reader, reader_outcome, received, understood, reader_step}
use Rattle.lent.specs.Told.{res}
use Rattle.shelf.specs.View.{reader_in}
use Rattle.shelf.specs.Range.{fit}
use Rattle.shelf.specs.Received.{received_on, told_of, read_of}
use Rattle.shelf.proofs.Packets.{long-enough}

-- a reply n to the packet f
pub record Told (n : ℕ) (f : List ℕ) : Type 0 where
  pub small : n ≤ 25
  pub whole : n ≡ 1 → length f ≡ 126

received-small : (r : Reader) (t : ℕ) (a : ArrivalEffect (List ℕ)) → (received r t a).reply ≤ 25
unfolding received
received-small r t repeated = omega arith
received-small r t (taken q) = omega arith
received-small r t (finished q g) = at (sound t (joined g))
  where
    at : (b : Bool) → (cond b (reader_outcome 1 (take (listed t) (joined g)) (Queue.replaced r t q)) (reader_outcome 23 [] (Queue.replaced r t q))).reply ≤ 25
    at true = omega arith
    at false = omega arith

understood-small : (r : Reader) (p : Packet) → (understood r p).reply ≤ 25
unfolding understood
understood-small r (packet t count x) = received-small r t (arrive (pieces t) (r t) count x)
understood-small r not_carried = omega arith
understood-small r no_packet = omega arith

none-handed : (r : Reader) → (understood r no_packet).reply ≡ 20
unfolding understood
none-handed r = refl

understood-told : (r : Reader) (f : List ℕ) → Told (understood r (packet_of f)).reply f
unfolding packet_of
understood-told r f = record { small = understood-small r (packet_of f); whole = at (well_formed f) refl }
  where
    at : (w : Bool) → well_formed f ≡ w
        → (understood r (cond w (cond (carried (be16 f 6 % 16)) (packet (be16 f 6 % 16) (be16 f 6 / 16) (drop 8 f)) not_carried) no_packet)).reply ≡ 1
        → length f ≡ 126
    at true e h = long-enough f e
    at false e h = absurd (omega (arith, none-handed r))

-- a call's
pub replies : (s f o : List ℕ) → Told (read_of s f o).reply f
unfolding read_of reader_step
replies s f o = at (fit s) (ltb (length o) 776)
  where
    refusal : (n : ℕ) → n ≤ 25 → 20 ≤ n → Told n f
    refusal n a b = record { small = a; whole = λ e. absurd (omega arith) }

    at : (b w : Bool)
        → Told
        (cond b (told_of (cond w (reader_outcome 24 [] (reader_in s)) (understood (reader_in s) (packet_of f))) o (received_on s f (length o))) (res 25 o s)).reply
        f
    at true true = refusal 24 (omega arith) (omega arith)
    at true false = understood-told (reader_in s) f
    at false w = refusal 25 (omega arith) (omega arith)
