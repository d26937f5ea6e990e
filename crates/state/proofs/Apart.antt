-- What a store elsewhere leaves of the controller that lent bytes hold: each part of it depends on its own bytes alone.
-- `..-same` says it of two lists that agree there, `..-apart` of a run that is stored before or after. Assumes nothing.
use mathlib.Core.Path.{◌≡◌, refl, sym, ap, ◌∙◌, fun_ext}
use mathlib.Core.Bool.{Bool, true, false, cond}
use mathlib.Core.List.{List}
use mathlib.Core.Logic.{◌⊎◌, inl, inr, ⊎_elim}
use Prim.{Dec, yes, no}
use Prim.Native.Nat.{ℕ, zero, suc, ◌+◌, ◌-◌, ◌*◌, ◌/◌, ◌%◌, ◌≤◌, ◌<◌}
use native.Mathlib.Nat.{add_assoc, add-zero, zero-mul, suc-mul}
use native.Mathlib.Decide.{dec_lt}
use native.Mathlib.Omega.{arith}
use lib.Dec.{eqb, leb, ltb}
use lib.ListN.{length, get_or}
use borrow.Author.Tests.{ltb-true, lt-ltb, le-ltb}
use Rattle.wire.specs.Wire.{be16, part, put}
use Rattle.wire.proofs.Runs.{length-put}
use Rattle.impact.specs.Window.{window_of}
use Rattle.packing.proofs.Packing.{words_of-same}
use Rattle.paper.specs.Frames.{cdmu_a, cdmu_b}
use Rattle.paper.specs.Mode.{mode_of}
use Rattle.paper.specs.Streams.{per_packet, width, form}
use Rattle.paper.specs.Queue.{piece}
use Rattle.paper.specs.Controller.{nothing_open, with_streams}
use Rattle.paper.proofs.Table.{several_rules}
use Rattle.lent.proofs.Same.{Same, same-within, Outside, put_same, be16-same, be24-same, part_same, chunks-same}
use Rattle.state.specs.Layout.{flag_at, impact_time_at, impact_mode_at, window_at, oldest_at, further_at, first_at, waiting_at, housed_at, streams, count_at, open_at, samples_at, ring_at, slots_at, slot_at, state_bytes, time_at, altitude_at, spin_at, phase_at, m_at, nibble_at, entry_time_at, old_at, entry_altitude_at, reference_at, commands_at, broadcasts_at, packets_at, telemetry_at, errors_at, code_at, sequence_at, id_at, stays_open}
use Rattle.state.specs.View.{clock_in, standing_in, collection_of, ring_from, impact_in, tallies_in, by_form, samples_in, open_of, held_in, open_in, count_in, piece_in, pieces_in, streams_in, view, capped, oldest_in, first_in, waiting_in}
use Rattle.state.specs.Range.{Whole}

-- ---- each part depends on its own bytes

module _ (x y : List ℕ) where
  pub clock-same : Same x y time_at nibble_at → clock_in x ≡ clock_in y
  unfolding clock_in
  clock-same p i =
      record {
        time = be16-same p time_at (omega arith) (omega arith) i;
        altitude = be16-same p altitude_at (omega arith) (omega arith) i;
        spin = p.byte spin_at (omega arith) (omega arith) i;
        phase = p.byte phase_at (omega arith) (omega arith) i;
        m = capped 1023 (be16-same p m_at (omega arith) (omega arith) i);
      }

  pub standing-same : Same x y nibble_at flag_at → standing_in x ≡ standing_in y
  unfolding standing_in
  standing-same p i =
      record {
        mode = mode_of (p.byte nibble_at (omega arith) (omega arith) i % 16 % 8);
        locked = leb 8 (p.byte nibble_at (omega arith) (omega arith) i % 16);
        entry =
            record {
              time = be24-same p entry_time_at (omega arith) (omega arith) i;
              altitude = be16-same p entry_altitude_at (omega arith) (omega arith) i;
              old = p.byte old_at (omega arith) (omega arith) i;
            };
        reference = be16-same p reference_at (omega arith) (omega arith) i;
      }

  -- the ring from a place in it
  pub ring-same : (place : ℕ) → place ≤ 512 → Same x y ring_at slots_at → ring_from x place ≡ ring_from y place
  unfolding ring_from
  ring-same place h p =
      let newer = words_of-same x (ring_at + 2 * place) y (ring_at + 2 * place) (512 - place)
      (λ j b. p.byte (ring_at + 2 * place + j) (omega arith) (omega arith)) in
      let older = words_of-same x ring_at y ring_at place (λ j b. p.byte (ring_at + j) (omega arith) (omega arith)) in
      rw (newer, older)

  pub impact-same : Same x y flag_at commands_at → Same x y ring_at slots_at → impact_in x ≡ impact_in y
  unfolding impact_in
  impact-same p r =
      let place = be16-same p oldest_at (omega arith) (omega arith) in
      let ring : ring_from x (oldest_in x) ≡ ring_from y (oldest_in y) =
      ring-same (oldest_in x) (omega arith) r ∙ ap (λ (n : ℕ). ring_from y (n % 512)) place in
      λ i.
      record {
        flag = eqb (p.byte flag_at (omega arith) (omega arith) i) 1;
        stamp =
            record {
              time = be24-same p impact_time_at (omega arith) (omega arith) i;
              mode = p.byte impact_mode_at (omega arith) (omega arith) i;
            };
        window = window_of (p.byte window_at (omega arith) (omega arith) i % 32);
        ring = ring i;
        collection = collection_of (capped 448 (be16-same p further_at (omega arith) (omega arith) i));
      }

  pub tallies-same : Same x y commands_at first_at → tallies_in x ≡ tallies_in y
  unfolding tallies_in
  tallies-same p i =
      record {
        broadcasts =
            record { a = be16-same p (broadcasts_at cdmu_a) (omega arith) (omega arith) i; b = be16-same p (broadcasts_at cdmu_b) (omega arith) (omega arith) i };
        packets = record { a = be16-same p (packets_at cdmu_a) (omega arith) (omega arith) i; b = be16-same p (packets_at cdmu_b) (omega arith) (omega arith) i };
        telemetry =
            record { a = be16-same p (telemetry_at cdmu_a) (omega arith) (omega arith) i; b = be16-same p (telemetry_at cdmu_b) (omega arith) (omega arith) i };
        commands = be16-same p commands_at (omega arith) (omega arith) i;
        errors = p.byte errors_at (omega arith) (omega arith) i;
        code = p.byte code_at (omega arith) (omega arith) i;
        sequence = p.byte sequence_at (omega arith) (omega arith) i;
        id = p.byte id_at (omega arith) (omega arith) i;
      }

  -- past the last stream there is no count
  pub count_where : (t : ℕ) → (t < streams → Same x y (count_at t) (count_at t + 2)) → count_in x t ≡ count_in y t
  unfolding count_in
  count_where t p = at (ltb t streams) refl
    where
      at : (b : Bool) → ltb t streams ≡ b → cond b (be16 x (count_at t) % 4096) 0 ≡ cond b (be16 y (count_at t) % 4096) 0
      at true e =
          ap (λ (n : ℕ). n % 4096) (be16-same (p (ltb-true t streams e)) (count_at t) (omega arith) (omega arith))
      at false e = refl

  pub counts_same : Same x y (count_at 0) (open_at 0) → count_in x ≡ count_in y
  counts_same p =
      fun_ext (λ t. count_where t (λ l. same-within (count_at t) (count_at t + 2) p (omega arith) (omega arith)))

-- ---- open packets: streams whose packets stay open have room for their samples

-- a packet is never full while it is open
pub held-room : (s : List ℕ) (t : ℕ) → (held_in s t ≡ 0) ⊎ (held_in s t < per_packet t)
unfolding held_in
held-room s t = at (ltb (get_or s (open_at t) 0) (per_packet t)) refl
  where
    n : ℕ
    n = get_or s (open_at t) 0

    at : (b : Bool) → ltb n (per_packet t) ≡ b → (cond b n 0 ≡ 0) ⊎ (cond b n 0 < per_packet t)
    at true e = inr (ltb-true n (per_packet t) e)
    at false e = inl refl

pub times_le : (n m w : ℕ) → n ≤ m → n * w ≤ m * w
times_le zero m w h = rw (zero-mul w) (omega arith)
times_le (suc n) zero w h = absurd (omega arith)
times_le (suc n) (suc m) w h = rw (suc-mul n w, suc-mul m w) (omega (arith, times_le n m w (omega arith)))

-- samples that are held are those of a stream of several, and there is room for them
pub open_room : (s : List ℕ) (t : ℕ) → 0 < held_in s t → (t < streams) × (held_in s t * width t ≤ 145)
open_room s t h = ⊎_elim (λ z. absurd (omega arith)) fewer (held-room s t)
  where
    fewer : held_in s t < per_packet t → (t < streams) × (held_in s t * width t ≤ 145)
    fewer l =
        let r = several_rules t (lt-ltb 1 (per_packet t) (omega arith)) in
        (r.small, omega (arith, r.bytes, times_le (held_in s t) (per_packet t) (width t) (omega arith)))

-- a stream whose packets stay open has room for one sample more
pub record Room (s : List ℕ) (t : ℕ) : Type 0 where
  pub small : t < streams
  pub few : held_in s t < per_packet t
  pub fits : held_in s t * width t + width t ≤ 144

pub room : (s : List ℕ) (t : ℕ) → stays_open t ≡ true → Room s t
room s t h =
    let r = several_rules t h in
    let few : held_in s t < per_packet t = ⊎_elim (λ z. omega (arith, ltb-true 1 (per_packet t) h)) (λ l. l) (held-room s t) in
    let more = times_le (suc (held_in s t)) (per_packet t) (width t) (omega arith) in
    record { small = r.small; few = few; fits = omega (arith, r.bytes, suc-mul (held_in s t) (width t)) }

-- a number that an open packet can have is what it says
pub held_byte : (s : List ℕ) (t n : ℕ) → get_or s (open_at t) 0 ≡ n → n < per_packet t → held_in s t ≡ n
unfolding held_in
held_byte s t n e l = rw (e, lt-ltb n (per_packet t) l)

-- any other says nothing
pub none_byte : (s : List ℕ) (t : ℕ) → per_packet t ≤ get_or s (open_at t) 0 → held_in s t ≡ 0
unfolding held_in
none_byte s t l = rw (le-ltb (get_or s (open_at t) 0) (per_packet t) l)

-- past the last stream nothing is held
none-held : (s : List ℕ) (t : ℕ) → (t < streams → ⊥) → held_in s t ≡ 0
none-held s t n = at (held_in s t) refl
  where
    at : (k : ℕ) → held_in s t ≡ k → k ≡ 0
    at zero e = refl
    at (suc k) e = absurd (n (open_room s t (omega arith)).0)

-- where the number that is kept is 0, no packet is open
pub shut_open : (s : List ℕ) (t : ℕ) → (t < streams → get_or s (open_at t) 0 ≡ 0) → open_in s t ≡ nothing_open
unfolding open_in held_in
shut_open s t z = ap (open_of s t) (at (dec_lt t streams))
  where
    at : Dec (t < streams) → held_in s t ≡ 0
    at (yes l) = zeros (ltb (get_or s (open_at t) 0) (per_packet t)) (z l)
      where
        zeros : (b : Bool) → get_or s (open_at t) 0 ≡ 0 → cond b (get_or s (open_at t) 0) 0 ≡ 0
        zeros true e = e
        zeros false e = refl
    at (no l) = none-held s t l

module _ (x y : List ℕ) (wx : state_bytes ≤ length x) (wy : state_bytes ≤ length y) where
  open_of-same : (t n : ℕ) → t < streams → n * width t ≤ 145 → Same x y (open_at t) (open_at t + 150) → open_of x t n ≡ open_of y t n
  unfolding samples_in
  open_of-same t zero l h p = refl
  open_of-same t (suc n) l h p =
      let samples = chunks-same p (width t) (suc n) (samples_at t) (omega arith) (omega arith) (omega arith) (omega arith) in
      λ i.
      record {
        stamp =
            record {
              time = be24-same p (open_at t + 1) (omega arith) (omega arith) i;
              mode = p.byte (open_at t + 4) (omega arith) (omega arith) i;
            };
        samples = by_form (form t) (samples i);
      }

  held_same : (t : ℕ) → Same x y (open_at t) (open_at t + 150) → held_in x t ≡ held_in y t
  unfolding held_in
  held_same t p =
      ap (λ (n : ℕ). cond (ltb n (per_packet t)) n 0) (p.byte (open_at t) (omega arith) (omega arith))

  -- where packets of stream t stay open, the bytes that hold one agree
  pub open_where : (t : ℕ) → (t < streams → Same x y (open_at t) (open_at t + 150)) → open_in x t ≡ open_in y t
  unfolding open_in
  open_where t p = at (dec_lt t streams)
    where
      some : Same x y (open_at t) (open_at t + 150) → t < streams → (n : ℕ) → held_in x t ≡ n → open_of x t n ≡ open_of y t n
      some same l zero e = refl
      some same l (suc n) e = open_of-same t (suc n) l (rw e at (open_room x t (omega arith)).1) same

      at : Dec (t < streams) → open_of x t (held_in x t) ≡ open_of y t (held_in y t)
      at (yes l) = some (p l) l (held_in x t) refl ∙ ap (open_of y t) (held_same t (p l))
      at (no l) = ap (open_of x t) (none-held x t l) ∙ ap (open_of y t) (sym (none-held y t l))

  pub open_same : (t : ℕ) → Same x y (open_at t) (open_at t + 150) → open_in x t ≡ open_in y t
  open_same t p = open_where t (λ l. p)

  pub opened-same : Same x y (open_at 0) ring_at → open_in x ≡ open_in y
  opened-same p =
      fun_ext (λ t. open_where t (λ l. same-within (open_at t) (open_at t + 150) p (omega arith) (omega arith)))

-- ---- pieces in slots, and the bytes of the last frame 07

module _ (x y : List ℕ) (wx : state_bytes ≤ length x) (wy : state_bytes ≤ length y) where
  pub housed-same : Same x y housed_at (housed_at + 58) → part x housed_at 58 ≡ part y housed_at 58
  housed-same p = part_same p housed_at 58 (omega arith) (omega arith) (omega arith) (omega arith)

  pub piece-same : (j : ℕ) → j < 48 → Same x y (slot_at j) (slot_at j + 120) → piece_in x j ≡ piece_in y j
  piece-same j l p =
      let tag = be16-same p (slot_at j) (omega arith) (omega arith) in
      let body = part_same p (slot_at j + 2) 118 (omega arith) (omega arith) (omega arith) (omega arith) in
      λ i. piece (tag i % 16) (tag i / 16) (body i)

  pub pieces-same : (i n : ℕ) → ((k : ℕ) → k < n → Same x y (slot_at ((i + k) % 48)) (slot_at ((i + k) % 48) + 120))
      → pieces_in x i n ≡ pieces_in y i n
  unfolding pieces_in
  pieces-same i zero p = refl
  pieces-same i (suc n) p =
      let here = piece-same (i % 48) (omega arith) (rw add-zero at (p 0 (omega arith))) in
      let rest = pieces-same (i + 1) n (λ k h. rw (add_assoc i 1 k) (p (1 + k) (omega arith))) in
      rw (here, rest)

-- ---- the whole view

-- bytes that agree everywhere but in the queue's numbers, the streams' counts, the open packets and the slots
pub streams-same : (x y : List ℕ) → Whole y → Whole x → Same x y 0 first_at → Same x y housed_at (count_at 0)
    → Same x y ring_at slots_at
    → view x ≡ with_streams (view y) (streams_in x)
unfolding view
streams-same x y f w p q r i =
    record {
      clock = clock-same x y (same-within time_at nibble_at p (omega arith) (omega arith)) i;
      standing = standing-same x y (same-within nibble_at flag_at p (omega arith) (omega arith)) i;
      impact = impact-same x y (same-within flag_at commands_at p (omega arith) (omega arith)) r i;
      tallies = tallies-same x y (same-within commands_at first_at p (omega arith) (omega arith)) i;
      housed = housed-same x y w f q i;
      streams = streams_in x;
    }

-- ---- a run that is stored elsewhere

module _ (s : List ℕ) (at : ℕ) (v : List ℕ) (fits : at + length v ≤ length s) (whole : state_bytes ≤ length s) where
  still : state_bytes ≤ length (put s at v)
  still = omega (arith, length-put s at v fits)

  pub clock-apart : nibble_at ≤ at → clock_in (put s at v) ≡ clock_in s
  clock-apart h = clock-same (put s at v) s (put_same s at v fits time_at nibble_at (inr h))

  pub standing_apart : Outside at v nibble_at flag_at → standing_in (put s at v) ≡ standing_in s
  standing_apart h = standing-same (put s at v) s (put_same s at v fits nibble_at flag_at h)

  pub impact-apart : Outside at v flag_at commands_at → Outside at v ring_at slots_at → impact_in (put s at v) ≡ impact_in s
  impact-apart h r =
      impact-same (put s at v) s (put_same s at v fits flag_at commands_at h) (put_same s at v fits ring_at slots_at r)

  pub tallies-apart : Outside at v commands_at first_at → tallies_in (put s at v) ≡ tallies_in s
  tallies-apart h = tallies-same (put s at v) s (put_same s at v fits commands_at first_at h)

  pub first-apart : Outside at v first_at waiting_at → first_in (put s at v) ≡ first_in s
  first-apart h =
      ap (λ (n : ℕ). n % 48) ((put_same s at v fits first_at waiting_at h).byte first_at (omega arith) (omega arith))

  pub waiting-apart : Outside at v waiting_at housed_at → waiting_in (put s at v) ≡ waiting_in s
  waiting-apart h =
      ap (capped 48) ((put_same s at v fits waiting_at housed_at h).byte waiting_at (omega arith) (omega arith))

  pub counts-apart : Outside at v (count_at 0) (open_at 0) → count_in (put s at v) ≡ count_in s
  counts-apart h = counts_same (put s at v) s (put_same s at v fits (count_at 0) (open_at 0) h)

  pub opened-apart : Outside at v (open_at 0) ring_at → open_in (put s at v) ≡ open_in s
  opened-apart h = opened-same (put s at v) s still whole (put_same s at v fits (open_at 0) ring_at h)

  -- a store below the slots leaves every piece
  pub pieces-apart : at + length v ≤ slots_at → (i n : ℕ) → pieces_in (put s at v) i n ≡ pieces_in s i n
  pieces-apart h i n = pieces-same (put s at v) s still whole i n (λ k b. put_same s at v fits _ _ (inl (omega arith)))

-- a store into slot j leaves the n pieces from slot i on where j is none of theirs
pub pieces-apart-slot : (s : List ℕ) (j : ℕ) (v : List ℕ) → j < 48 → length v ≡ 120 → state_bytes ≤ length s → (i n : ℕ)
    → ((k : ℕ) → k < n → (i + k) % 48 ≡ j → ⊥) → pieces_in (put s (slot_at j) v) i n ≡ pieces_in s i n
pieces-apart-slot s j v l e whole i n other =
    let fits : slot_at j + length v ≤ length s = omega arith in
    pieces-same (put s (slot_at j) v) s (omega (arith, length-put s (slot_at j) v fits)) whole i n
    (λ k b. put_same s (slot_at j) v fits _ _ (beside ((i + k) % 48) (dec_lt ((i + k) % 48) j) (other k b)))
  where
    beside : (q : ℕ) → Dec (q < j) → (q ≡ j → ⊥) → Outside (slot_at j) v (slot_at q) (slot_at q + 120)
    beside q (yes h) d = inr (omega arith)
    beside q (no h) d = inl (omega arith)
