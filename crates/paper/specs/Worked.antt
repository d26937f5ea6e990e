-- What the worked examples claim: the tables by document 01's sections, each with its name, and three examples on definitions.
-- Assumes nothing.
use Rattle.std.specs.Prelude.{◌≡◌, List, [], ◌∷◌, map, pos, negsuc}
use Prim.Native.String.{String}
use Rattle.paper.specs.Impact.{signed}
use Rattle.paper.specs.Streams.{listed}
use Rattle.paper.specs.WorkedLines.{Line, upward, Answers, Hears}
use Rattle.paper.specs.WorkedReplies as replies
use Rattle.paper.specs.WorkedModes as modes
use Rattle.paper.specs.WorkedImpact as impact
use Rattle.paper.specs.WorkedPackets as packets
use Rattle.paper.specs.WorkedHousekeeping as housekeeping
use Rattle.paper.specs.WorkedStatus as status
use Rattle.paper.specs.WorkedReader as reader

-- "Frames" and "What the controller replies", "Time and mode", "Impact", "Streams and packets", "Status words": in the order in which they are
-- played, those first that find most in least time
abbrev pub controller_tables : List (String × List Line)
controller_tables =
    ("replies-modes", replies.modes)
    ∷ ("modes-descent", modes.descent)
    ∷ ("housekeeping-after-errors", housekeeping.after_errors)
    ∷ ("replies-full-queue", replies.full_queue)
    ∷ ("modes-entries", modes.entries)
    ∷ ("replies-values", replies.values)
    ∷ ("replies-lengths", replies.lengths)
    ∷ ("replies-ids-and-lengths", replies.ids_and_lengths)
    ∷ ("replies-sizes", replies.sizes)
    ∷ ("modes-heights", modes.heights)
    ∷ ("packets-short-of-room", packets.short_of_room)
    ∷ ("impact-unlocked-run", impact.unlocked_run)
    ∷ ("housekeeping-every-field", housekeeping.every_field)
    ∷ ("packets-interleaved", packets.interleaved)
    ∷ ("packets-clears", packets.clears)
    ∷ ("status-each-flag", status.each_flag)
    ∷ ("replies-channels", replies.channels)
    ∷ ("replies-masks", replies.masks)
    ∷ ("replies-other-streams", replies.other_streams)
    ∷ ("replies-late-broadcasts", replies.late_broadcasts)
    ∷ ("replies-rooms", replies.rooms)
    ∷ ("modes-one-change", modes.one_change)
    ∷ ("modes-stays-0", modes.stays_0)
    ∷ ("modes-stays-6", modes.stays_6)
    ∷ ("modes-stays-7", modes.stays_7)
    ∷ ("modes-locked-1", modes.locked_1)
    ∷ ("modes-locked-2", modes.locked_2)
    ∷ ("modes-locked-3", modes.locked_3)
    ∷ ("modes-locked-4", modes.locked_4)
    ∷ ("modes-locked-5", modes.locked_5)
    ∷ ("modes-set-mode", modes.setting_modes)
    ∷ ("modes-four-again", modes.four_again)
    ∷ ("modes-five-again", modes.five_again)
    ∷ ("modes-m-counts", modes.m_counts)
    ∷ ("impact-above-or-not", impact.above_or_not)
    ∷ ("impact-elsewhere", impact.elsewhere)
    ∷ ("impact-entries-to-4", impact.entries_to_4)
    ∷ ("impact-abandoned", impact.abandoned)
    ∷ ("packets-acc-e-packets", packets.acc_e_packets)
    ∷ ("packets-clears-all", packets.clears_all)
    ∷ ("housekeeping-from-fresh", housekeeping.from_fresh)
    ∷ ("housekeeping-errors-wrap", housekeeping.errors_wrap)
    ∷ ("status-own-bits", status.own_bits)
    ∷ ("impact-locked-run", impact.locked_run)
    ∷ []

-- "Reader"
abbrev pub reader_tables : List (String × List Line)
reader_tables =
    ("reader-one-piece", reader.one_piece)
    ∷ ("reader-first-counts", reader.first_counts)
    ∷ ("reader-refusals", reader.refusals)
    ∷ ("reader-five-pieces", reader.five_pieces)
    ∷ ("reader-five-wrong", reader.five_wrong)
    ∷ ("reader-seven-pieces", reader.seven_pieces)
    ∷ []

pub record Worked : Type 0 where
  -- what a refusal changes
  pub replies_changes : replies.changes ≡ replies.changes_said
  -- a reading's value is exact at 2047, 2048 and 4095
  pub impact_signed : map signed (0 ∷ 2047 ∷ 2048 ∷ 4095 ∷ []) ≡ pos 0 ∷ pos 2047 ∷ negsuc 2047 ∷ negsuc 0 ∷ []
  -- the listed length of streams 0 to F, 0 where a stream is not carried
  pub packets-listed :
      map listed (upward 0 16)
      ≡ 0 ∷ 0 ∷ 776 ∷ 0 ∷ 116 ∷ 116 ∷ 116 ∷ 0 ∷ 0 ∷ 116 ∷ 118 ∷ 520 ∷ 0 ∷ 0 ∷ 0 ∷ 0 ∷ []
  pub controller : Answers controller_tables
  pub reader : Hears reader_tables
