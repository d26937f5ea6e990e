-- A datastream packet as the controller queues it: its listed length, its opening and its closing. Cut into pieces and put
-- together again it is sound and comes back; and the bytes of a poll say the piece that they were made of.
-- Assumes nothing.
use mathlib.Core.Path.{◌≡◌, refl, ap, ◌∙◌}
use mathlib.Core.Bool.{Bool, true, ◌&&◌, ◌||◌}
use mathlib.Core.List.{List, ◌++◌}
use Prim.Native.Nat.{ℕ, zero, suc, ◌+◌, ◌-◌, ◌*◌, ◌/◌, ◌%◌, ◌≤◌, ◌<◌}
use native.Mathlib.Omega.{arith}
use lib.Dec.{eqb}
use lib.ListN.{length, get_or, take, replicate, length-append, length-replicate, get_or-append}
use lib.Seq.{take_all, take_at, drop_at}
use borrow.Author.Tests.{eq-eqb}
use Rattle.wire.specs.Wire.{be16}
use Rattle.paper.specs.Frames.{Channel, cdmu_a, cdmu_b}
use Rattle.paper.specs.Streams.{pieces, listed, carried}
use Rattle.paper.specs.Packets.{joined, cut, packet_id}
use Rattle.paper.specs.Queue.{Piece}
use Rattle.paper.specs.Controller.{Both}
use Rattle.paper.specs.Acts.{poll_output}
use Rattle.paper.specs.Reader.{packet, well_formed, packet_of, all99, sound}
use Rattle.paper.proofs.Packets.{joined-chunks}
use Rattle.paper.proofs.Table.{carried-small, carried_rules}

-- "A datastream packet opens with the two bytes 88 88 and closes with 99 99", at its stream's listed length.
abbrev pub Whole : ℕ → List ℕ → Type 0
Whole s x =
    (carried s ≡ true) × (length x ≡ listed s) × (get_or x 0 0 ≡ 0x88) × (get_or x 1 0 ≡ 0x88)
    × (get_or x (listed s - 2) 0 ≡ 0x99) × (get_or x (listed s - 1) 0 ≡ 0x99)

-- ---- cut and put together

all_99 : (n : ℕ) → all99 (replicate n 0x99) ≡ true
all_99 zero = refl
all_99 (suc n) = all_99 n

and_true : {a b : Bool} → a ≡ true → b ≡ true → (a && b) ≡ true
and_true e f = rw (e, f)

module _ (s : ℕ) (x : List ℕ) (w : Whole s x) where
  abbrev fill : List ℕ
  fill = replicate (pieces s * 118 - length x) 0x99

  long : length (x ++ fill) ≡ pieces s * 118
  long =
      length-append x fill
      ∙ omega (arith, length-replicate {A = ℕ} (pieces s * 118 - length x) 0x99, (carried_rules s w.0).fits, w.1)

  -- its pieces side by side are the packet and its fill
  pub whole-joined : joined (cut (pieces s) x) ≡ x ++ fill
  unfolding cut
  whole-joined = joined-chunks 118 (pieces s) (x ++ fill) ∙ take_all (pieces s * 118) (x ++ fill) (omega (arith, long))

  pub whole_back : take (listed s) (joined (cut (pieces s) x)) ≡ x
  whole_back = rw whole-joined (take_at x fill (listed s) w.1)

  keeps : (i n : ℕ) → i < listed s → get_or x i 0 ≡ n → eqb (get_or (x ++ fill) i 0) n ≡ true
  keeps i n h e = eq-eqb (get_or (x ++ fill) i 0) n (get_or-append x fill 0 i (omega (arith, w.1)) ∙ e)

  pub whole-sound : sound s (joined (cut (pieces s) x)) ≡ true
  unfolding sound
  whole-sound =
      let l : 8 ≤ listed s = (carried_rules s w.0).long in
      rw whole-joined
      (and_true (and_true (keeps 0 0x88 (omega arith) w.2) (and_true (keeps 1 0x88 (omega arith) w.3) refl))
      (and_true
      (and_true (keeps (listed s - 2) 0x99 (omega arith) w.4)
      (and_true (keeps (listed s - 2 + 1) 0x99 (omega arith) (ap (λ n. get_or x n 0) (let z : listed s - 2 + 1 ≡ listed s - 1 = omega arith in z) ∙ w.5)) refl))
      (ap all99 (drop_at x fill (listed s) w.1) ∙ all_99 (pieces s * 118 - length x))))

-- ---- a poll's bytes

-- a piece that can be polled: its stream is carried, its count below 4096, its body 118 bytes
abbrev pub Ready : Piece (List ℕ) → Type 0
Ready p = (carried p.stream ≡ true) × (p.count < 4096) × (length p.body ≡ 118)

named : (cc : Channel) → (eqb (packet_id cc) 0x0F94 || eqb (packet_id cc) 0x0FB4) ≡ true
named cdmu_a = refl
named cdmu_b = refl

id_back : (cc : Channel) → packet_id cc / 256 * 256 + packet_id cc % 256 ≡ packet_id cc
id_back cc = omega arith

well_formed_lem : (cc : Channel) (t : Both) (p : Piece (List ℕ)) → length p.body ≡ 118 → well_formed (poll_output cc t p) ≡ true
unfolding well_formed poll_output
well_formed_lem cc t p l =
    let f : List ℕ = poll_output cc t p in
    let long : eqb (length f) 126 ≡ true = eq-eqb (length f) 126 (omega arith) in
    let id : (eqb (be16 f 0) 0x0F94 || eqb (be16 f 0) 0x0FB4) ≡ true = rw (id_back cc) (named cc) in
    let top : eqb (get_or f 2 0 / 64) 3 ≡ true = eq-eqb (get_or f 2 0 / 64) 3 (omega arith) in
    and_true long (and_true id (and_true top refl))

-- The reader finds in the bytes of an accepted poll the piece that waited, whatever the channel and its telemetry count.
pub polled_parse : (cc : Channel) (t : Both) (p : Piece (List ℕ)) → Ready p → packet_of (poll_output cc t p) ≡ packet p.stream p.count p.body
unfolding packet_of poll_output
polled_parse cc t p r =
    let small : p.stream < 12 = carried-small p.stream r.0 in
    let n : ℕ = p.count * 16 + p.stream in
    let a : (n / 256 * 256 + n % 256) % 16 ≡ p.stream = omega arith in
    let b : (n / 256 * 256 + n % 256) / 16 ≡ p.count = omega arith in
    rw (well_formed_lem cc t p r.2, a, r.0, b)
