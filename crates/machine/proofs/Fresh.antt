-- Fresh bytes hold document 01's fresh controller, and fit; bytes past the state stay.
-- Assumes nothing.
use mathlib.Core.Path.{◌≡◌, refl, sym, ap, ◌∙◌, fun_ext}
use mathlib.Core.Bool.{Bool, true, false, cond}
use mathlib.Core.List.{List, [], ◌∷◌}
use Prim.Native.Nat.{ℕ, ◌+◌, ◌%◌, ◌≤◌, ◌<◌}
use native.Mathlib.Omega.{arith}
use lib.Dec.{eqb, leb, ltb}
use lib.ListN.{length, drop, get_or, replicate, length-replicate}
use lib.Seq.{ext_get_or}
use borrow.Author.Tests.{ltb-true, leb-true}
use Rattle.wire.specs.Wire.{be16, be24, part}
use Rattle.wire.proofs.Runs.{length_part, get_or-part, length-put, get_or-put_before, get_or-put_inside, get_or-put_after, be16-put_before}
use Rattle.impact.specs.Window.{window_of}
use Rattle.paper.specs.Frames.{cdmu_a, cdmu_b}
use Rattle.paper.specs.Mode.{mode_of}
use Rattle.paper.specs.Controller.{nothing_open, start}
use Rattle.state.specs.Layout.{controller_mark, time_at, altitude_at, spin_at, phase_at, m_at, nibble_at, entry_time_at, old_at, entry_altitude_at, reference_at, flag_at, impact_time_at, impact_mode_at, window_at, further_at, commands_at, broadcasts_at, packets_at, telemetry_at, errors_at, code_at, sequence_at, id_at, waiting_at, housed_at, streams, count_at, open_at, ring_at, state_bytes}
use Rattle.state.specs.View.{capped, oldest_in, first_in, waiting_in, clock_in, standing_in, collection_of, ring_from, impact_in, tallies_in, open_in, count_in, pieces_in, view}
use Rattle.state.specs.Range.{Whole, Fit}
use Rattle.state.specs.Fresh.{started_on}
use Rattle.lent.specs.Fitting.{mark_at, blank_on}
use Rattle.lent.proofs.Fitting.{get_or-zeros, blank-length, blank-mark, blank_zero, blank_rest, drop_rest}
use Rattle.lent.specs.Told.{told}
use Rattle.state.proofs.Apart.{shut_open}
use Rattle.machine.specs.Called.{start_of}
use Rattle.machine.proofs.Entries.{ring_zeros}

-- ---- bytes that are zero but for the mark's and the mode's

pub record Blank (x : List ℕ) : Type 0 where
  pub whole : Whole x
  pub mark : be16 x mark_at ≡ controller_mark
  pub mode : get_or x nibble_at 0 ≡ 1
  pub low : (i : ℕ) → time_at ≤ i → i < nibble_at → get_or x i 0 ≡ 0
  pub high : (i : ℕ) → nibble_at < i → i < state_bytes → get_or x i 0 ≡ 0

module _ (x : List ℕ) (z : Blank x) where
  -- a byte, and numbers of two and three bytes, behind the mode's
  byte : (i : ℕ) → nibble_at < i → i < state_bytes → get_or x i 0 ≡ 0
  byte = z.high

  word : (i : ℕ) → nibble_at < i → i + 1 < state_bytes → be16 x i ≡ 0
  word i l h = omega (arith, byte i l (omega arith), byte (i + 1) (omega arith) h)

  long : (i : ℕ) → nibble_at < i → i + 2 < state_bytes → be24 x i ≡ 0
  long i l h = omega (arith, byte i l (omega arith), byte (i + 1) (omega arith) (omega arith), byte (i + 2) (omega arith) h)

  front : (i : ℕ) → time_at ≤ i → i + 1 < nibble_at → be16 x i ≡ 0
  front i l h = omega (arith, z.low i l (omega arith), z.low (i + 1) (omega arith) h)

  blank-housed : part x housed_at 58 ≡ replicate 58 0
  blank-housed =
      let l : length (part x housed_at 58) ≡ 58 = length_part x housed_at 58 (omega (arith, z.whole)) in
      ext_get_or 0 _ _ (l ∙ sym (length-replicate {A = ℕ} 58 0))
      (λ i h.
      get_or-part x housed_at 58 i (omega arith) ∙ byte (housed_at + i) (omega arith) (omega arith) ∙ sym (get_or-zeros 58 i))

  blank-opened : open_in x ≡ (λ t. nothing_open)
  blank-opened = fun_ext (λ t. shut_open x t (λ l. byte (open_at t) (omega arith) (omega arith)))

  blank-counts : count_in x ≡ (λ t. 0)
  unfolding count_in
  blank-counts = fun_ext (λ t. at t (ltb t streams) refl)
    where
      at : (t : ℕ) (b : Bool) → ltb t streams ≡ b → cond b (be16 x (count_at t) % 4096) 0 ≡ 0
      at t true e =
          let l = ltb-true t streams e in
          ap (λ (n : ℕ). n % 4096) (word (count_at t) (omega arith) (omega arith))
      at t false e = refl

  pub blank-view : view x ≡ start
  unfolding view start clock_in standing_in impact_in tallies_in pieces_in mode_of capped
  blank-view =
      let housed = blank-housed in
      let opened = blank-opened in
      let counts = blank-counts in
      let ring : ring_from x (oldest_in x) ≡ replicate 512 0 =
      ring_zeros x (oldest_in x) (omega arith)
      (λ j h. byte (ring_at + j) (omega arith) (omega arith)) in
      let queue : pieces_in x (first_in x) (waiting_in x) ≡ [] =
      ap (λ (n : ℕ). pieces_in x (first_in x) (capped 48 n)) (byte waiting_at (omega arith) (omega arith)) in
      λ i.
      record {
        clock =
            record {
              time = front time_at (omega arith) (omega arith) i;
              altitude = front altitude_at (omega arith) (omega arith) i;
              spin = z.low spin_at (omega arith) (omega arith) i;
              phase = z.low phase_at (omega arith) (omega arith) i;
              m = capped 1023 (front m_at (omega arith) (omega arith) i);
            };
        standing =
            record {
              mode = mode_of (z.mode i % 16 % 8);
              locked = leb 8 (z.mode i % 16);
              entry =
                  record {
                    time = long entry_time_at (omega arith) (omega arith) i;
                    altitude = word entry_altitude_at (omega arith) (omega arith) i;
                    old = byte old_at (omega arith) (omega arith) i;
                  };
              reference = word reference_at (omega arith) (omega arith) i;
            };
        impact =
            record {
              flag = eqb (byte flag_at (omega arith) (omega arith) i) 1;
              stamp =
                  record { time = long impact_time_at (omega arith) (omega arith) i; mode = byte impact_mode_at (omega arith) (omega arith) i };
              window = window_of (byte window_at (omega arith) (omega arith) i % 32);
              ring = ring i;
              collection = collection_of (capped 448 (word further_at (omega arith) (omega arith) i));
            };
        tallies =
            record {
              broadcasts =
                  record { a = word (broadcasts_at cdmu_a) (omega arith) (omega arith) i; b = word (broadcasts_at cdmu_b) (omega arith) (omega arith) i };
              packets = record { a = word (packets_at cdmu_a) (omega arith) (omega arith) i; b = word (packets_at cdmu_b) (omega arith) (omega arith) i };
              telemetry = record { a = word (telemetry_at cdmu_a) (omega arith) (omega arith) i; b = word (telemetry_at cdmu_b) (omega arith) (omega arith) i };
              commands = word commands_at (omega arith) (omega arith) i;
              errors = byte errors_at (omega arith) (omega arith) i;
              code = byte code_at (omega arith) (omega arith) i;
              sequence = byte sequence_at (omega arith) (omega arith) i;
              id = byte id_at (omega arith) (omega arith) i;
            };
        housed = housed i;
        streams = record { opened = opened i; counts = counts i; queue = queue i };
      }

-- ---- what starting leaves

module _ (s : List ℕ) (w : Whole s) where
  abbrev blank : List ℕ
  blank = blank_on state_bytes controller_mark s

  blank-long : length blank ≡ length s
  blank-long = blank-length state_bytes controller_mark s (omega arith) w

  mode-fits : nibble_at + 1 ≤ length blank
  mode-fits = omega (arith, blank-long)

  pub start-length : length (started_on s) ≡ length s
  unfolding started_on
  start-length = length-put blank nibble_at (1 ∷ []) mode-fits ∙ blank-long

  zero : (i : ℕ) → time_at ≤ i → i < state_bytes → get_or blank i 0 ≡ 0
  zero = blank_zero state_bytes controller_mark s (omega arith) w

  start-blank : Blank (started_on s)
  unfolding started_on
  start-blank =
      record {
        whole = omega (arith, start-length);
        mark =
            be16-put_before blank nibble_at (1 ∷ []) mode-fits mark_at (omega arith)
            ∙ blank-mark state_bytes controller_mark s (omega arith) w;
        mode = get_or-put_inside blank nibble_at (1 ∷ []) mode-fits 0 (omega arith);
        low = λ i l h. get_or-put_before blank nibble_at (1 ∷ []) mode-fits i h ∙ zero i l (omega arith);
        high = λ i l h. get_or-put_after blank nibble_at (1 ∷ []) mode-fits i (omega arith) ∙ zero i (omega arith) h;
      }

  pub start-view : view (started_on s) ≡ start
  start-view = blank-view (started_on s) start-blank

  pub start-fit : Fit (started_on s)
  start-fit = record { whole = start-blank.whole; mark = start-blank.mark }

  -- later bytes stay
  start_rest : (i : ℕ) → state_bytes ≤ i → get_or (started_on s) i 0 ≡ get_or s i 0
  unfolding started_on
  start_rest i h =
      get_or-put_after blank nibble_at (1 ∷ []) mode-fits i (omega arith)
      ∙ blank_rest state_bytes controller_mark s (omega arith) w i h

-- starting leaves the bytes past the state, whatever their number
pub start_tail : (s : List ℕ) → drop state_bytes (start_of s).state ≡ drop state_bytes s
unfolding start_of
start_tail s = at (leb state_bytes (length s)) refl
  where
    at : (b : Bool) → leb state_bytes (length s) ≡ b → drop state_bytes (cond b (told 0 (started_on s)) (told 10 s)).state ≡ drop state_bytes s
    at true e =
        let w : Whole s = leb-true state_bytes (length s) e in
        drop_rest state_bytes (started_on s) s (start-length s w) (start_rest s w)
    at false e = refl
