-- The sequence word of a poll, after any calls; and the worked examples of counts.
-- Assumes nothing.
use mathlib.Core.Path.{◌≡◌, refl, ap, ◌∙◌}
use mathlib.Core.List.{List, [], ◌∷◌, ◌++◌}
use Prim.Native.Nat.{ℕ, suc, ◌+◌, ◌%◌}
use lib.ListN.{length, take}
use borrow.Author.Tests.{eqb-false, ne_eqb}
use native.Mathlib.Omega.{arith}
use Rattle.wire.specs.Wire.{bytes16}
use Rattle.paper.specs.Frames.{Channel, cdmu_a, cdmu_b, poll, on_channel, frame_of}
use Rattle.paper.specs.Packets.{packet_id}
use Rattle.paper.specs.Queue.{Piece}
use Rattle.paper.specs.Controller.{at, Controller, start}
use Rattle.paper.specs.Acts.{noted, poll_output, poll_output_from, answer}
use Rattle.paper.specs.Step.{holds, reply, refused, Outcome, replied, step}
use Rattle.paper.specs.Runs.{runs}
use Rattle.paper.specs.WorkedCounts.{poll_frame, Begins, Counts}
use Rattle.paper.proofs.History.{counted}

poll-frame : (cc : Channel) → frame_of (poll_frame cc) ≡ poll cc
unfolding on_channel frame_of
poll-frame cdmu_a = refl
poll-frame cdmu_b = refl

-- An accepted poll begins with its channel's ID and the telemetry count of that channel.
poll-begins : (c : Controller) (cc : Channel) → (step c (poll_frame cc) 126).reply ≡ 0
    → take 4 (step c (poll_frame cc) 126).out ≡ bytes16 (packet_id cc) ++ bytes16 (0xC000 + at cc c.tallies.telemetry % 16384)
unfolding poll_output poll_output_from answer reply refused replied step
poll-begins c cc = rw (poll-frame cc) (by c.streams.queue refl)
  where
    o : Outcome
    o = replied (reply (holds c) (poll cc) 126) (poll cc) c

    by : (q : List (Piece (List ℕ))) → c.streams.queue ≡ q → o.reply ≡ 0
        → take 4 o.out ≡ bytes16 (packet_id cc) ++ bytes16 (0xC000 + at cc c.tallies.telemetry % 16384)
    by [] h e = absurd (eqb-false 9 0 refl (rw h at e))
    by (p ∷ rest) h e = rw (h, ne_eqb (suc (length rest)) 0 (λ z. omega (arith, z)))

-- "C000 plus that channel's telemetry count modulo 16384", by the polls made
pub sequence-word : (cc : Channel) (n : ℕ) → Begins cc n (bytes16 (packet_id cc) ++ bytes16 (0xC000 + n % 65536 % 16384))
sequence-word cc n calls k e =
    poll-begins (runs start calls) cc e
    ∙ ap (λ m. bytes16 (packet_id cc) ++ bytes16 (0xC000 + m % 16384)) ((counted calls).telemetry cc ∙ ap (λ m. m % 65536) k)

pub counts : Counts
unfolding noted start
counts =
    record {
      polls_16383 = sequence-word cdmu_a 16383;
      polls_16384 = sequence-word cdmu_a 16384;
      polls_40000 = sequence-word cdmu_b 40000;
      polls_65535 = sequence-word cdmu_b 65535;
      polls_65536 = sequence-word cdmu_b 65536;
      wraps = (refl, refl, refl, refl);
      pieces_wrap = (refl, refl);
      sequence_low = refl;
      id_low = refl;
    }
