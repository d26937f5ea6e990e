-- The packet that a poll shows is six bytes and the first slot as it stands.
-- Assumes nothing.
use mathlib.Core.Path.{◌≡◌, sym, ap, ◌∙◌}
use mathlib.Core.List.{List, ◌++◌}
use Prim.Native.Nat.{ℕ, ◌+◌, ◌*◌, ◌/◌, ◌%◌, ◌≤◌, ◌<◌}
use native.Mathlib.Nat.{div-add-mod'}
use native.Mathlib.Omega.{arith}
use lib.ListN.{length, get_or}
use Rattle.wire.specs.Wire.{be16, bytes16, part, put, Bytes}
use Rattle.wire.proofs.Runs.{length_part, part-append, bytes16-part, put-append}
use Rattle.paper.specs.Frames.{Channel, cdmu_a, cdmu_b, poll}
use Rattle.paper.specs.Packets.{packet_id}
use Rattle.paper.specs.Acts.{poll_output, poll_output_from, answer}
use Rattle.state.specs.Layout.{telemetry_at, slot_at}
use Rattle.state.specs.View.{first_in, waiting_in, view, tallies_in}
use Rattle.state.specs.Range.{Whole}
use Rattle.machine.proofs.Queue.{waits_first}

-- a slot is its number's two bytes and its piece
slot-bytes : (s : List ℕ) (at : ℕ) → at + 120 ≤ length s → get_or s (at + 1) 0 < 256
    → bytes16 (be16 s at / 16 * 16 + be16 s at % 16) ++ part s (at + 2) 118 ≡ part s at 120
slot-bytes s at h b =
    ap (λ (n : ℕ). bytes16 n ++ part s (at + 2) 118) (div-add-mod' (be16 s at) 16)
    ∙ ap (λ (l : List ℕ). l ++ part s (at + 2) 118) (bytes16-part s at (omega arith) b)
    ∙ sym (part-append s at 2 118)

-- ID, sequence and length
abbrev pub front : List ℕ → Channel → List ℕ
front s cc = bytes16 (packet_id cc) ++ bytes16 (0xC000 + be16 s (telemetry_at cc) % 16384) ++ bytes16 0x0077

module _ (s : List ℕ) (f : Whole s) (b : Bytes s) (w : 0 < waiting_in s) where
  first_slot : bytes16 (be16 s (slot_at (first_in s)) / 16 * 16 + be16 s (slot_at (first_in s)) % 16)
      ++ part s (slot_at (first_in s) + 2) 118
      ≡ part s (slot_at (first_in s)) 120
  first_slot = slot-bytes s (slot_at (first_in s)) (omega (arith, f)) (b (slot_at (first_in s) + 1))

  shown-bytes : (cc : Channel) → answer (view s) (poll cc) ≡ front s cc ++ part s (slot_at (first_in s)) 120
  unfolding answer poll_output_from poll_output view tallies_in
  shown-bytes cdmu_a =
      ap (λ q. poll_output_from (view s) cdmu_a q) (waits_first s f w) ∙ ap (λ (l : List ℕ). front s cdmu_a ++ l) first_slot
  shown-bytes cdmu_b =
      ap (λ q. poll_output_from (view s) cdmu_b q) (waits_first s f w) ∙ ap (λ (l : List ℕ). front s cdmu_b ++ l) first_slot

  -- stored one after the other
  pub shows : (o : List ℕ) (cc : Channel) → 126 ≤ length o
      → put (put o 0 (front s cc)) 6 (part s (slot_at (first_in s)) 120) ≡ put o 0 (answer (view s) (poll cc))
  shows o cc h =
      sym (put-append o 0 (front s cc) (part s (slot_at (first_in s)) 120) (omega (arith, length_part s (slot_at (first_in s)) 120 (omega (arith, f)))))
      ∙ ap (put o 0) (sym (shown-bytes cc))
