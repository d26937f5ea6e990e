-- The items marked P hold, and the session: each is computed on the definitions.
-- Assumes nothing.
use mathlib.Core.Path.{refl}
use Rattle.paper.specs.Frames.{on_channel, frame_of}
use Rattle.paper.specs.Clock.{ticked}
use Rattle.paper.specs.Mode.{number, mode_of, nibble, target, greater, next, ruled, entered}
use Rattle.paper.specs.Impact.{signed, above}
use Rattle.paper.specs.Commands.{outside, decoded}
use Rattle.paper.specs.Streams.{row_of, taken_in}
use Rattle.paper.specs.Packets.{data_of, datastream, cut}
use Rattle.paper.specs.Queue.{numbered, after, replaced, without}
use Rattle.paper.specs.Controller.{start, queued}
use Rattle.paper.specs.Housekeeping.{housekeeping_data, housekeeping_packet}
use Rattle.paper.specs.Status.{word_a, word_b}
use Rattle.paper.specs.Acts.{emptied, enter, heard, moved, m_raised, last, completes, with_reading, detected, watched, impact_packet, completed, watching, ticks, joined_by, closed, kept_open, sampled, noted, cleared, commanded, obeyed, poll_output, poll_answered, status_word, performed, poll_answered_from, poll_output_from, accepted, answer}
use Rattle.paper.specs.Step.{reply, late_heard, erred, refused, replied, step}
use Rattle.paper.specs.Reader.{arrive, well_formed, packet_of, sound, reader_start, received, understood, reader_step}
use Rattle.paper.specs.Runs.{runs, replies, readings}
use Rattle.paper.specs.Examples.{mode_after, flags, flags_from4, ten_pieces, packets_out, without_third, ExamplesHold, SessionHolds}

pub examples_hold : ExamplesHold
unfolding on_channel frame_of ticked number mode_of nibble target greater next ruled entered signed above outside decoded row_of taken_in data_of datastream cut numbered after replaced without start queued housekeeping_data housekeeping_packet word_a word_b emptied enter heard moved m_raised last completes with_reading detected watched impact_packet completed watching ticks joined_by closed kept_open sampled noted cleared commanded obeyed poll_output poll_answered status_word performed poll_answered_from poll_output_from accepted answer reply late_heard erred refused replied step arrive well_formed packet_of sound reader_start received understood reader_step runs replies readings mode_after flags flags_from4 ten_pieces packets_out without_third
examples_hold =
    (refl, (refl, (refl, (refl, (refl, (refl, (refl, (refl, (refl, (refl, (refl, (refl, (refl, (refl, (refl, tt)))))))))))))))

pub session-holds : SessionHolds
unfolding on_channel frame_of ticked number mode_of nibble target greater next ruled entered signed above outside decoded row_of taken_in data_of datastream cut numbered after replaced without start queued housekeeping_data housekeeping_packet word_a word_b emptied enter heard moved m_raised last completes with_reading detected watched impact_packet completed watching ticks joined_by closed kept_open sampled noted cleared commanded obeyed poll_output poll_answered status_word performed poll_answered_from poll_output_from accepted answer reply late_heard erred refused replied step replies
session-holds = refl
