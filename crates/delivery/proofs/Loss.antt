-- The small loss of Demands: with the third of ten pieces lost, the second packet alone is handed out. Computed on the definitions.
-- Assumes nothing.
use mathlib.Core.Path.{refl}
use mathlib.Core.Logic.{inl, inr}
use lib.Dec.{lit≤}
use lib.ListN.{drop}
use Rattle.paper.specs.Frames.{on_channel, frame_of}
use Rattle.paper.specs.Mode.{number, mode_of, nibble, entered}
use Rattle.paper.specs.Commands.{outside, decoded}
use Rattle.paper.specs.Streams.{row_of, taken_in}
use Rattle.paper.specs.Packets.{data_of, datastream, cut}
use Rattle.paper.specs.Queue.{numbered, after, replaced, without}
use Rattle.paper.specs.Controller.{start, queued}
use Rattle.paper.specs.Acts.{emptied, enter, joined_by, closed, sampled, noted, cleared, commanded, obeyed, poll_output, poll_answered, performed, poll_answered_from, poll_output_from, accepted, answer}
use Rattle.paper.specs.Step.{reply, refused, replied, step}
use Rattle.paper.specs.Reader.{arrive, well_formed, packet_of, sound, reader_start, received, understood, reader_step}
use Rattle.paper.specs.Runs.{readings}
use Rattle.paper.specs.History.{full_packet, sent, sent_at, sent_by, counts_after, numbered_all, takes_at}
use Rattle.polls.specs.Polls.{numbers_after, taken_at, polled_from, polled, polled_of}
use Rattle.delivery.specs.Chosen.{own_of}
use Rattle.delivery.specs.HandedOut.{handed_out, complete}
use Rattle.delivery.specs.Demands.{two_packets, Loss}
use Rattle.delivery.proofs.Way.{chosen-all}

pub loss : Loss
unfolding polled_of own_of complete handed_out arrive well_formed packet_of sound reader_start received understood reader_step readings on_channel frame_of number mode_of nibble entered outside decoded row_of taken_in data_of datastream cut numbered after replaced without start queued emptied enter joined_by closed sampled noted cleared commanded obeyed poll_output poll_answered performed poll_answered_from poll_output_from accepted answer reply refused replied step full_packet sent sent_at sent_by counts_after numbered_all takes_at numbers_after taken_at polled_from polled
loss =
    record {
      comes =
          record {
            chosen = inr (refl, inl (inr (refl, inl (inl (chosen-all (drop 3 (polled_of 0x0B (polled two_packets))))))));
            no_others = (λ e. refl, (λ e. refl, (λ e. refl, (λ e. refl, (λ e. refl, (λ e. refl, (λ e. refl, (λ e. refl, (λ e. refl, tt)))))))));
            gaps =
                (lit≤ tt, (lit≤ tt, (lit≤ tt, (lit≤ tt, (lit≤ tt, (lit≤ tt, (lit≤ tt, (lit≤ tt, (lit≤ tt, tt)))))))));
          };
      numbers = refl;
      whole = refl;
      handed = refl;
    }
