-- Demand 3 holds of arrivals in another order among streams than the one polled: a housekeeping packet is queued and polled before one of
-- ACC-E; its first copy is lost, and its repeat comes behind ACC-E's pieces. Both are handed out whole, in the order in which they
-- arrived, which is not the order queued.
-- Assumes nothing.
use mathlib.Core.Path.{◌≡◌, refl}
use mathlib.Core.Bool.{true, false, false≢true}
use mathlib.Core.List.{List, [], ◌∷◌, ◌++◌, map}
use lib.Dec.{lit≤}
use lib.ListN.{take, drop, replicate}
use Rattle.paper.specs.Frames.{on_channel, frame_of}
use Rattle.paper.specs.Mode.{number, mode_of, nibble, entered}
use Rattle.paper.specs.Commands.{outside, decoded}
use Rattle.paper.specs.Streams.{row_of, taken_in}
use Rattle.paper.specs.Packets.{data_of, datastream, cut}
use Rattle.paper.specs.Queue.{numbered, after, replaced, without}
use Rattle.paper.specs.Controller.{start, queued}
use Rattle.paper.specs.Housekeeping.{housekeeping_data, housekeeping_packet}
use Rattle.paper.specs.Acts.{emptied, enter, joined_by, closed, sampled, noted, cleared, commanded, obeyed, poll_output, poll_answered, performed, poll_answered_from, poll_output_from, accepted, answer}
use Rattle.paper.specs.Step.{reply, refused, replied, step}
use Rattle.paper.specs.Reader.{arrive, well_formed, packet_of, sound, reader_start, received, understood, reader_step}
use Rattle.paper.specs.Runs.{Call, call, readings}
use Rattle.paper.specs.History.{full_packet, sent, sent_at, sent_by, counts_after, numbered_all, takes_at}
use Rattle.polls.specs.Polls.{numbers_after, taken_at, polled_from, polled, polled_of}
use Rattle.delivery.specs.Chosen.{Arrival, own, own_of, Comes}
use Rattle.delivery.specs.HandedOut.{handed_out, hands_out, complete, arrived_whole}
use Rattle.delivery.proofs.Way.{chosen-all}
use Rattle.delivery.proofs.Sharp.{to5, sample, poll, given}

abbrev pub housekeeping : Call
housekeeping = call (0x02 ∷ 0x0A ∷ 0x00 ∷ 0x16 ∷ 0x00 ∷ 0x02 ∷ []) 126

abbrev pub calls : List Call
calls = to5 ∷ housekeeping ∷ sample ∷ replicate 6 poll

-- the first polled packet comes last
abbrev pub late : List Arrival
late = map own (drop 1 (polled calls) ++ take 1 (polled calls))

pub record Across : Type 0 where
  pub housekeeping-comes : Comes calls late 0x0A
  pub acc_e_comes : Comes calls late 0x0B
  pub queue : map (λ p. p.0) (sent_by start calls) ≡ 0x0A ∷ 0x0B ∷ []
  pub whole : arrived_whole calls late ≡ sent_by start calls
  pub hand : hands_out (given late) ≡ drop 1 (sent_by start calls) ++ take 1 (sent_by start calls)

-- a packet of another stream
other : {A : Type 0} → false ≡ true → A
other e = absurd (false≢true e)

pub across : Across
unfolding polled_of own_of complete handed_out arrive well_formed packet_of sound reader_start received understood reader_step readings housekeeping_data housekeeping_packet on_channel frame_of number mode_of nibble entered outside decoded row_of taken_in data_of datastream cut numbered after replaced without start queued emptied enter joined_by closed sampled noted cleared commanded obeyed poll_output poll_answered performed poll_answered_from poll_output_from accepted answer reply refused replied step full_packet sent sent_at sent_by counts_after numbered_all takes_at numbers_after taken_at polled_from polled
across =
    record {
      housekeeping-comes =
          record {
            chosen = chosen-all (polled_of 0x0A (polled calls));
            no_others = (other, (other, (other, (other, (other, (λ e. refl, tt))))));
            gaps = (lit≤ tt, tt);
          };
      acc_e_comes =
          record {
            chosen = chosen-all (polled_of 0x0B (polled calls));
            no_others = (λ e. refl, (λ e. refl, (λ e. refl, (λ e. refl, (λ e. refl, (other, tt))))));
            gaps = (lit≤ tt, (lit≤ tt, (lit≤ tt, (lit≤ tt, (lit≤ tt, tt)))));
          };
      queue = refl;
      whole = refl;
      hand = refl;
    }
