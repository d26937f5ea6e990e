-- "never more than 4,094": with one more missing the demand fails. ACC-E samples in mode 5 whose packets are cleared before a poll,
-- 819 of them, are 4,095 pieces that go missing; all pieces of the next packet arrive, and it is not handed out, for its first
-- piece has the count that the reader had last and is taken for a repeat. So before the first arrival, and so between two.
-- Assumes nothing.
use mathlib.Core.Path.{◌≡◌, refl, sym, ap, ap₂, ◌∙◌, subst, fun_ext}
use mathlib.Core.Bool.{Bool, true, false, cond}
use mathlib.Core.Option.{none}
use mathlib.Core.List.{List, [], ◌∷◌, ◌++◌, map}
use Prim.Native.Nat.{ℕ, zero, suc}
use lib.Dec.{eqb, lit≤}
use lib.ListN.{replicate}
use Rattle.paper.specs.Frames.{on_channel, frame_of}
use Rattle.paper.specs.Mode.{number, mode_of, nibble, entered}
use Rattle.paper.specs.Commands.{outside, names, decoded}
use Rattle.paper.specs.Streams.{row_of, taken_in}
use Rattle.paper.specs.Packets.{data_of, datastream, cut}
use Rattle.paper.specs.Queue.{wrap, numbered, after, replaced, without}
use Rattle.paper.specs.Controller.{raised, Open, nothing_open, Controller, start, queued}
use Rattle.paper.specs.Acts.{emptied, enter, joined_by, closed, sampled, noted, cleared, commanded, obeyed, poll_output, poll_answered, performed, poll_answered_from, poll_output_from, accepted, answer}
use Rattle.paper.specs.Step.{reply, refused, replied, step}
use Rattle.paper.specs.Reader.{arrive, well_formed, packet_of, sound, reader_start, received, understood, reader_step}
use Rattle.paper.specs.Runs.{Call, call, runs, readings}
use Rattle.paper.specs.History.{full_packet, sent, sent_at, sent_by, counts_after, numbered_all, takes_at}
use Rattle.polls.specs.Polls.{Numbers, numbers_after, taken_at, polled_from, polled}
use Rattle.delivery.specs.Chosen.{Arrival, frame, own_of, arrived}
use Rattle.delivery.specs.HandedOut.{Given, handed_out, of, hands_out, complete, arrived_whole}
use Rattle.delivery.specs.Fates.{Fate, came, arrivals_from, arrivals, Quiet}

abbrev pub to5 : Call
to5 = call (0x02 ∷ 0x0A ∷ 0x00 ∷ 0x32 ∷ 0x00 ∷ 0x01 ∷ 0x00 ∷ 0x05 ∷ []) 126

abbrev pub sample : Call
sample = call (0x04 ∷ 0x0B ∷ replicate 512 0x01) 126

abbrev pub clear : Call
clear = call (0x02 ∷ 0x0A ∷ 0x00 ∷ 0x13 ∷ 0x00 ∷ 0x01 ∷ 0x08 ∷ 0x00 ∷ []) 126

abbrev pub poll : Call
poll = call (0x05 ∷ 0x0A ∷ []) 126

-- the datastream packet of that sample
abbrev pub packet : List ℕ
packet = 0x88 ∷ 0x88 ∷ 0 ∷ 0 ∷ 0 ∷ 0x15 ∷ (replicate 512 0x01 ++ (0x99 ∷ 0x99 ∷ []))

-- n packets, each cleared as it was queued
unfoldable pub rounds : ℕ → List Call → List Call
rounds zero xs = xs
rounds (suc n) xs = sample ∷ clear ∷ rounds n xs

-- ---- what a round leaves

-- what differs between the controllers on the way, and the numbers beside them
record At : Type 0 where
  packets : ℕ
  commands : ℕ
  id : ℕ
  counts : ℕ → ℕ
  queued : ℕ → ℕ

-- with m polls made on A
unfoldable held_with : (ℕ → Open) → ℕ → At → Controller
held_with opened m a =
    record {
      clock = (runs start (to5 ∷ [])).clock;
      standing = (runs start (to5 ∷ [])).standing;
      impact = (runs start (to5 ∷ [])).impact;
      tallies =
          record {
            broadcasts = record { a = 0; b = 0 };
            packets = record { a = a.packets; b = 0 };
            telemetry = record { a = m; b = 0 };
            commands = a.commands;
            errors = 0;
            code = 0;
            sequence = 1;
            id = a.id;
          };
      housed = replicate 58 0;
      streams = record { opened = opened; counts = a.counts; queue = [] };
    }

abbrev held : ℕ → At → Controller
held = held_with (λ s. nothing_open)

abbrev beside : At → Numbers
beside a = record { queued = a.queued; waiting = [] }

unfoldable round : At → At
round a =
    record {
      packets = raised a.packets;
      commands = raised a.commands;
      id = 0x13;
      counts = replaced a.counts 0x0B (after wrap (a.counts 0x0B) (cut 5 packet));
      queued = replaced a.queued 0x0B (after suc (a.queued 0x0B) (cut 5 packet));
    }

-- nothing is open after the clear
abbrev none_open : ℕ → Open
none_open s = cond (names 0x0800 s) nothing_open (replaced (λ t. nothing_open) 0x0B nothing_open s)

still_none : none_open ≡ (λ s. nothing_open)
unfolding replaced
still_none = fun_ext (λ s. both (names 0x0800 s) (eqb 0x0B s))
  where
    both : (a b : Bool) → cond a nothing_open (cond b nothing_open nothing_open) ≡ nothing_open
    both true b = refl
    both false true = refl
    both false false = refl

round_polled : (m : ℕ) (a : At) (rest : List Call)
    → polled_from (held m a) (beside a) (sample ∷ clear ∷ rest) ≡ polled_from (held_with none_open m (round a)) (beside (round a)) rest
unfolding held_with round on_channel frame_of number mode_of nibble entered outside decoded row_of taken_in data_of datastream cut numbered after replaced without start queued emptied enter joined_by closed sampled noted cleared commanded obeyed poll_output poll_answered performed poll_answered_from poll_output_from accepted answer reply refused replied step runs full_packet sent sent_at sent_by counts_after numbered_all takes_at numbers_after taken_at polled_from polled
round_polled m a rest = refl

round_sent : (m : ℕ) (a : At) (rest : List Call)
    → sent_by (held m a) (sample ∷ clear ∷ rest) ≡ (0x0B, packet) ∷ sent_by (held_with none_open m (round a)) rest
unfolding held_with round on_channel frame_of number mode_of nibble entered outside decoded row_of taken_in data_of datastream cut numbered after replaced without start queued emptied enter joined_by closed sampled noted cleared commanded obeyed poll_output poll_answered performed poll_answered_from poll_output_from accepted answer reply refused replied step runs full_packet sent sent_at sent_by counts_after numbered_all takes_at numbers_after taken_at polled_from polled
round_sent m a rest = refl

unfoldable after_rounds : ℕ → At → At
after_rounds zero a = a
after_rounds (suc n) a = after_rounds n (round a)

rounds_polled : (n m : ℕ) (a : At) (rest : List Call)
    → polled_from (held m a) (beside a) (rounds n rest) ≡ polled_from (held m (after_rounds n a)) (beside (after_rounds n a)) rest
unfolding rounds after_rounds
rounds_polled zero m a rest = refl
rounds_polled (suc n) m a rest =
    round_polled m a (rounds n rest)
    ∙ ap (λ (o : ℕ → Open). polled_from (held_with o m (round a)) (beside (round a)) (rounds n rest)) still_none
    ∙ rounds_polled n m (round a) rest

rounds_sent : (n m : ℕ) (a : At) (rest : List Call)
    → sent_by (held m a) (rounds n rest) ≡ replicate n (0x0B, packet) ++ sent_by (held m (after_rounds n a)) rest
unfolding rounds after_rounds
rounds_sent zero m a rest = refl
rounds_sent (suc n) m a rest =
    round_sent m a (rounds n rest)
    ∙ ap (λ (o : ℕ → Open). (0x0B, packet) ∷ sent_by (held_with o m (round a)) (rounds n rest)) still_none
    ∙ ap (λ l. (0x0B, packet) ∷ l) (rounds_sent n m (round a) rest)

-- ---- packets all of whose pieces arrived, and what is handed out of them

abbrev pub given : List Arrival → List Call
given = map (λ y. call (frame y) 776)

given-all : (ys : List Arrival) → Given ys (given ys)
given-all [] = tt
given-all (y ∷ ys) = (refl, lit≤ tt, given-all ys)

-- Nothing is put in; what arrives of ACC-E, which packets arrive whole, and what the reader hands out, given room.
pub record Shows (calls : List Call) (fates : List Fate) (numbers : List ℕ) (wholes handed : List (ℕ × List ℕ)) : Type 0 where
  pub quiet : Quiet (arrivals calls fates)
  pub room : Given (arrivals calls fates) (given (arrivals calls fates))
  pub arrive : arrived 0x0B (arrivals calls fates) ≡ numbers
  pub whole : arrived_whole calls (arrivals calls fates) ≡ wholes
  pub hand : hands_out (given (arrivals calls fates)) ≡ handed

-- one packet queued and polled
abbrev pub once : List Call
once = sample ∷ replicate 5 poll

from : At
from = record { packets = 1; commands = 1; id = 0x32; counts = λ s. 0; queued = λ s. 0 }

-- 4,095 pieces missing before the first arrival
abbrev pub before : List Call
before = to5 ∷ rounds 819 once

before_polled : polled before ≡ polled_from (held 0 (after_rounds 819 from)) (beside (after_rounds 819 from)) once
unfolding held_with from on_channel frame_of number mode_of nibble entered outside decoded row_of taken_in data_of datastream cut numbered after replaced without start queued emptied enter joined_by closed sampled noted cleared commanded obeyed poll_output poll_answered performed poll_answered_from poll_output_from accepted answer reply refused replied step runs full_packet sent sent_at sent_by counts_after numbered_all takes_at numbers_after taken_at polled_from polled
before_polled = rounds_polled 819 0 from once

before_sent : sent_by start before ≡ replicate 819 (0x0B, packet) ++ sent_by (held 0 (after_rounds 819 from)) once
unfolding held_with from on_channel frame_of number mode_of nibble entered outside decoded row_of taken_in data_of datastream cut numbered after replaced without start queued emptied enter joined_by closed sampled noted cleared commanded obeyed poll_output poll_answered performed poll_answered_from poll_output_from accepted answer reply refused replied step runs full_packet sent sent_at sent_by counts_after numbered_all takes_at numbers_after taken_at polled_from polled
before_sent = rounds_sent 819 0 from once

pub before_first : Shows before (replicate 5 came) (4095 ∷ 4096 ∷ 4097 ∷ 4098 ∷ 4099 ∷ []) ((0x0B, packet) ∷ []) []
unfolding held_with from round after_rounds arrivals arrivals_from own_of handed_out of complete arrive well_formed packet_of sound reader_start received understood reader_step readings on_channel frame_of number mode_of nibble entered outside decoded row_of taken_in data_of datastream cut numbered after replaced without start queued emptied enter joined_by closed sampled noted cleared commanded obeyed poll_output poll_answered performed poll_answered_from poll_output_from accepted answer reply refused replied step runs full_packet sent sent_at sent_by counts_after numbered_all takes_at numbers_after taken_at polled_from polled
before_first =
    record {
      quiet = subst (λ ps. Quiet (arrivals_from (λ s. none) ps (replicate 5 came))) (sym before_polled) tt;
      room = given-all (arrivals before (replicate 5 came));
      arrive = ap (λ ps. arrived 0x0B (arrivals_from (λ s. none) ps (replicate 5 came))) before_polled;
      whole = ap₂ (λ ps qs. complete (λ s. 0) (arrivals_from (λ s. none) ps (replicate 5 came)) qs) before_polled before_sent;
      hand = ap (λ ps. hands_out (given (arrivals_from (λ s. none) ps (replicate 5 came)))) before_polled;
    }

-- 4,095 pieces missing between two arrivals
abbrev pub between : List Call
between = to5 ∷ (once ++ rounds 819 once)

abbrev closed_one : ℕ → Open
closed_one = replaced (λ t. nothing_open) 0x0B nothing_open

one_closed : closed_one ≡ (λ s. nothing_open)
unfolding replaced
one_closed = fun_ext (λ s. both (eqb 0x0B s))
  where
    both : (b : Bool) → cond b nothing_open nothing_open ≡ nothing_open
    both true = refl
    both false = refl

then : At
then = record { packets = 1; commands = 1; id = 0x32; counts = replaced (λ s. 0) 0x0B 5; queued = replaced (λ s. 0) 0x0B 5 }

between_polled : polled between ≡ polled (to5 ∷ once) ++ polled_from (held 5 (after_rounds 819 then)) (beside (after_rounds 819 then)) once
unfolding held_with then on_channel frame_of number mode_of nibble entered outside decoded row_of taken_in data_of datastream cut numbered after replaced without start queued emptied enter joined_by closed sampled noted cleared commanded obeyed poll_output poll_answered performed poll_answered_from poll_output_from accepted answer reply refused replied step runs full_packet sent sent_at sent_by counts_after numbered_all takes_at numbers_after taken_at polled_from polled
between_polled =
    ap (λ (o : ℕ → Open). polled (to5 ∷ once) ++ polled_from (held_with o 5 then) (beside then) (rounds 819 once)) one_closed
    ∙ ap (λ l. polled (to5 ∷ once) ++ l) (rounds_polled 819 5 then once)

between_sent : sent_by start between ≡ (0x0B, packet) ∷ (replicate 819 (0x0B, packet) ++ sent_by (held 5 (after_rounds 819 then)) once)
unfolding held_with then on_channel frame_of number mode_of nibble entered outside decoded row_of taken_in data_of datastream cut numbered after replaced without start queued emptied enter joined_by closed sampled noted cleared commanded obeyed poll_output poll_answered performed poll_answered_from poll_output_from accepted answer reply refused replied step runs full_packet sent sent_at sent_by counts_after numbered_all takes_at numbers_after taken_at polled_from polled
between_sent =
    ap (λ (o : ℕ → Open). (0x0B, packet) ∷ sent_by (held_with o 5 then) (rounds 819 once)) one_closed
    ∙ ap (λ l. (0x0B, packet) ∷ l) (rounds_sent 819 5 then once)

pub between_two : Shows between (replicate 10 came) (0 ∷ 1 ∷ 2 ∷ 3 ∷ 4 ∷ 4100 ∷ 4101 ∷ 4102 ∷ 4103 ∷ 4104 ∷ [])
    ((0x0B, packet) ∷ (0x0B, packet) ∷ []) ((0x0B, packet) ∷ [])
unfolding held_with then round after_rounds arrivals arrivals_from own_of handed_out of complete arrive well_formed packet_of sound reader_start received understood reader_step readings on_channel frame_of number mode_of nibble entered outside decoded row_of taken_in data_of datastream cut numbered after replaced without start queued emptied enter joined_by closed sampled noted cleared commanded obeyed poll_output poll_answered performed poll_answered_from poll_output_from accepted answer reply refused replied step runs full_packet sent sent_at sent_by counts_after numbered_all takes_at numbers_after taken_at polled_from polled
between_two =
    record {
      quiet = subst (λ ps. Quiet (arrivals_from (λ s. none) ps (replicate 10 came))) (sym between_polled) tt;
      room = given-all (arrivals between (replicate 10 came));
      arrive = ap (λ ps. arrived 0x0B (arrivals_from (λ s. none) ps (replicate 10 came))) between_polled;
      whole = ap₂ (λ ps qs. complete (λ s. 0) (arrivals_from (λ s. none) ps (replicate 10 came)) qs) between_polled between_sent;
      hand = ap (λ ps. hands_out (given (arrivals_from (λ s. none) ps (replicate 10 came)))) between_polled;
    }
