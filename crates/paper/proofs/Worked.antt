-- The worked examples hold: each table is computed on the definitions. Playing them is two thirds of this crate's check, so they come
-- after the laws: definitions that break a law are not played.
-- Assumes nothing.
use mathlib.Core.Path.{refl}
use Rattle.paper.specs.Frames.{on_channel, frame_of}
use Rattle.paper.specs.Clock.{ticked}
use Rattle.paper.specs.Mode.{number, mode_of, nibble, target, greater, next, ruled, entered}
use Rattle.paper.specs.Impact.{signed, above}
use Rattle.paper.specs.Commands.{outside, decoded}
use Rattle.paper.specs.Streams.{row_of, taken_in}
use Rattle.paper.specs.Packets.{data_of, datastream, cut}
use Rattle.paper.specs.Queue.{numbered, after, replaced, without}
use Rattle.paper.specs.Controller.{start, queued}
use Rattle.paper.specs.Housekeeping.{housekeeping_data, housekeeping_packet}
use Rattle.paper.specs.Status.{word_a, word_b}
use Rattle.paper.specs.Acts.{emptied, enter, heard, moved, m_raised, last, completes, with_reading, detected, watched, impact_packet, completed, watching, ticks, joined_by, closed, kept_open, sampled, noted, cleared, commanded, obeyed, poll_output, poll_answered, status_word, performed, poll_answered_from, poll_output_from, accepted, answer}
use Rattle.paper.specs.Step.{reply, late_heard, erred, refused, replied, step}
use Rattle.paper.specs.Reader.{arrive, well_formed, packet_of, sound, reader_start, received, understood, reader_step}
use Rattle.paper.specs.WorkedLines.{Hears}
use Rattle.paper.specs.Worked.{reader_tables, Worked}
use Rattle.paper.proofs.Table.{single_rules, carried_rules, samples-few}
use Rattle.paper.proofs.Shapes.{shaped}
use Rattle.paper.proofs.Refusals.{in_order, each_once, silent, nothing_else, late_raises, error_raises}
use Rattle.paper.proofs.Modes.{at_most_one}
use Rattle.paper.proofs.Labels.{bit_back}
use Rattle.paper.proofs.Kept.{kept-runs, collects_in_4, runs_write}
use Rattle.paper.proofs.History.{counted}
use Rattle.paper.proofs.Examples.{examples_hold, session-holds}
use Rattle.paper.proofs.Counts.{counts}

reader_hears : Hears reader_tables
unfolding row_of cut replaced arrive well_formed packet_of sound reader_start received understood reader_step
reader_hears = refl

pub worked : Worked
unfolding on_channel frame_of ticked number mode_of nibble target greater next ruled entered signed above outside decoded row_of taken_in data_of datastream cut numbered after replaced without start queued housekeeping_data housekeeping_packet word_a word_b emptied enter heard moved m_raised last completes with_reading detected watched impact_packet completed watching ticks joined_by closed kept_open sampled noted cleared commanded obeyed poll_output poll_answered status_word performed poll_answered_from poll_output_from accepted answer reply late_heard erred refused replied step arrive well_formed packet_of sound reader_start received understood reader_step
worked =
    let law = examples_hold in
    let law = session-holds in
    let law = counts in
    let law = counted in
    let law = in_order in
    let law = each_once in
    let law = silent in
    let law = nothing_else in
    let law = late_raises in
    let law = error_raises in
    let law = at_most_one in
    let law = bit_back in
    let law = kept-runs in
    let law = collects_in_4 in
    let law = runs_write in
    let law = single_rules in
    let law = carried_rules in
    let law = samples-few in
    let law = shaped in
    let tables = reader_hears in
    record { replies_changes = refl; impact_signed = refl; packets-listed = refl; controller = refl; reader = tables }
