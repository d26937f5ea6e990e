-- Document 01, the counts along a run: "equal to the history's number", modulo 65536, 256 and 4096; and what the packets that an
-- accepted frame queues do to queue and counts.
-- Assumes nothing.
use mathlib.Core.Path.{◌≡◌, refl, sym, ap, ◌∙◌}
use mathlib.Core.Bool.{Bool, true, false, cond, ◌&&◌, ◌||◌}
use mathlib.Core.List.{List, [], ◌∷◌, ◌++◌, append-nil, append_assoc}
use Prim.Native.Nat.{ℕ, zero, suc, ◌+◌, ◌%◌}
use native.Mathlib.Omega.{arith}
use borrow.Author.Tests.{eqb-true, eqb-false}
use lib.Dec.{eqb, leb}
use lib.ListN.{length, drop}
use Rattle.paper.specs.Frames.{Channel, cdmu_a, cdmu_b, Frame, broadcast, command, tick, sample, poll, status, analogue, faulty, frame_of}
use Rattle.paper.specs.Clock.{seconds, seconds_of}
use Rattle.paper.specs.Mode.{Mode, surface, same, mode_of, ruled}
use Rattle.paper.specs.Impact.{collects}
use Rattle.paper.specs.Commands.{clear, housekeeping, set_mode, Decoded, request, refusal, names, decoded}
use Rattle.paper.specs.Streams.{acc_i, hk, pieces}
use Rattle.paper.specs.Packets.{chunks, cut}
use Rattle.paper.specs.Queue.{Piece, wrap, after, replaced, without}
use Rattle.paper.specs.Controller.{Both, at, raised, raised8, raised_at, Tallies, Open, Controller, start, queued, with_impact, stamp_now}
use Rattle.paper.specs.Housekeeping.{housekeeping_packet}
use Rattle.paper.specs.Acts.{enter, heard, moved, m_raised, in_proximity, last, completes, with_reading, watching, ended, impact_packet, completed, ticks, joined_by, closes, closed, kept_open, sampled, noted, cleared, commanded, obeyed, poll_answered, performed, poll_answered_from, accepted, answer}
use Rattle.paper.specs.Step.{holds, queues, reply, late_heard, erred, is_error, Count, of_broadcasts, of_commands, of_polls, of_none, count_of, unchanged, late_on, error_on, change, changed, refused, Outcome, outcome, replied, step}
use Rattle.paper.specs.Runs.{Call, runs}
use Rattle.paper.specs.History.{Counted, history, how_many, same_channel, is_accepted, raises_broadcasts, raises_packets, raises_commands, raises_telemetry, raises_errors, full_packet, only_if, sent, sent_at, sent_by, pieces_of, counts_after, numbered_all, Takes, nothing, the_first, named, command_takes, takes, leaves, takes_at}
use Rattle.paper.proofs.Refusals.{Clear, passed, refused_any}

-- ---- what packets do to queue and counts

-- A controller d that is c after packets ps were queued, one after the other, and then what t takes was taken.
pub record Queues (c d : Controller) (t : Takes) (ps : List (ℕ × List ℕ)) : Type 0 where
  pub queue : d.streams.queue ≡ leaves t (c.streams.queue ++ numbered_all wrap c.streams.counts ps)
  pub counts : d.streams.counts ≡ counts_after wrap c.streams.counts ps

-- none queued
queues-none : (c d : Controller) (t : Takes) → d.streams.queue ≡ leaves t c.streams.queue
    → d.streams.counts ≡ c.streams.counts → Queues c d t []
unfolding numbered_all counts_after
queues-none c d t e f = record { queue = e ∙ ap (leaves t) (sym (append-nil c.streams.queue)); counts = f }

-- one, by the machine's own way to queue it; what else differs between b and c does not count
queues_one : (c b : Controller) (s : ℕ) (x : List ℕ) → b.streams.queue ≡ c.streams.queue
    → b.streams.counts ≡ c.streams.counts → Queues c (queued b s x) nothing ((s, x) ∷ [])
unfolding numbered_all counts_after queued
queues_one c b s x e f =
    record {
      queue = rw (e, f) (ap (λ l. c.streams.queue ++ l) (sym (append-nil _)));
      counts = ap (λ g. replaced g s (after wrap (g s) (cut (pieces s) x))) f;
    }

-- an entry queues nothing
queues-enter : (c d : Controller) (t : Takes) (ps : List (ℕ × List ℕ)) (mode : Mode) (locked : Bool) (reference : ℕ)
    → Queues c d t ps → Queues c (enter d mode locked reference) t ps
unfolding enter
queues-enter c d t ps mode locked reference k = record { queue = k.queue; counts = k.counts }

queues-moved : (c d : Controller) (t : Takes) (ps : List (ℕ × List ℕ)) → Queues c d t ps → Queues c (moved d) t ps
unfolding moved
queues-moved c d t ps k = by (same mode d.standing.mode)
  where
    mode : Mode
    mode =
        ruled d.standing
        (record { t = seconds d.clock.time; altitude = d.clock.altitude; collecting = collects d.impact.collection })

    by : (b : Bool) → Queues c (cond b d (enter d mode d.standing.locked (seconds d.clock.time))) t ps
    by true = k
    by false = queues-enter c d t ps mode d.standing.locked (seconds d.clock.time) k

queues-completed : (c e : Controller) → e.streams.queue ≡ c.streams.queue → e.streams.counts ≡ c.streams.counts
    → Queues c (completed e) nothing ((acc_i, impact_packet e.impact) ∷ [])
unfolding completed
queues-completed c e p q = by e.standing.locked
  where
    done : Controller
    done = queued (with_impact e (ended e.impact)) acc_i (impact_packet e.impact)

    done-queues : Queues c done nothing ((acc_i, impact_packet e.impact) ∷ [])
    done-queues = queues_one c (with_impact e (ended e.impact)) acc_i (impact_packet e.impact) p q

    by : (b : Bool)
        → Queues c (cond b done (enter done surface false (seconds_of e.impact.stamp.time))) nothing
        ((acc_i, impact_packet e.impact) ∷ [])
    by true = done-queues
    by false = queues-enter c done nothing _ surface false (seconds_of e.impact.stamp.time) done-queues

queues-ticks : (c : Controller) (r : ℕ)
    → Queues c (ticks c r) nothing (only_if (completes c) (acc_i, impact_packet (with_reading c.impact r)))
unfolding ticks m_raised completes watching
queues-ticks c r = by (in_proximity c) (last c.impact.collection)
  where
    d : Controller
    d = m_raised c

    e : Controller
    e = with_impact d (with_reading c.impact r)

    by : (b f : Bool)
        → Queues c (cond b (cond (b && f) (completed e) (watching e)) d) nothing
        (only_if (b && f) (acc_i, impact_packet (with_reading c.impact r)))
    by true true = queues-completed c e refl refl
    by true false = queues-none c (watching e) nothing refl refl
    by false f = queues-none c d nothing refl refl

queues-sampled : (c : Controller) (s : ℕ) (x : List ℕ)
    → Queues c (sampled c s x) nothing (only_if (closes c s) (s, full_packet c s x))
unfolding sampled closed kept_open full_packet
queues-sampled c s x = by (closes c s)
  where
    o : Open
    o = joined_by (c.streams.opened s) (stamp_now c s) x

    by : (b : Bool) → Queues c (cond b (closed c s o) (kept_open c s o)) nothing (only_if b (s, full_packet c s x))
    by true = queues_one c _ s _ refl refl
    by false = queues-none c (kept_open c s o) nothing refl refl

queues-performed : (c b : Controller) (d : Decoded) → b.streams.queue ≡ c.streams.queue → b.streams.counts ≡ c.streams.counts
    → Queues c (performed b d) (command_takes d) (only_if (queues d) (hk, housekeeping_packet b))
unfolding performed obeyed cleared commanded
queues-performed c b (request (clear mask)) e f = queues-none c (cleared b mask) (named mask) (ap (without (names mask)) e) f
queues-performed c b (request housekeeping) e f = queues_one c b hk (housekeeping_packet b) e f
queues-performed c b (request (set_mode value)) e f =
    queues-enter c (with_impact b (ended b.impact)) nothing [] (mode_of (value % 8)) (leb 8 value) (seconds b.clock.time)
    (queues-none c (with_impact b (ended b.impact)) nothing e f)
queues-performed c b (refusal n) e f = queues-none c b nothing e f

queues-polled : (c : Controller) (cc : Channel) (q : List (Piece (List ℕ))) → c.streams.queue ≡ q
    → Queues c (poll_answered_from c cc q) the_first []
unfolding poll_answered_from poll_answered
queues-polled c cc [] e = queues-none c c the_first (e ∙ sym (ap (drop 1) e)) refl
queues-polled c cc (p ∷ rest) e = queues-none c (poll_answered c cc rest) the_first (sym (ap (drop 1) e)) refl

-- The law that ties `sent` and `takes` to the machine: an accepted frame leaves of the queue, with the packets behind it that it
-- sends, what it does not take; counts move on by those packets alone, so "cleared pieces have used theirs".
pub queues-accepted : (c : Controller) (f : Frame) → Queues c (accepted c f) (takes f) (sent c f)
unfolding accepted heard noted sent
queues-accepted c (broadcast cc time altitude spin phase) =
    queues-moved c (heard c cc time altitude spin phase) nothing []
    (queues-none c (heard c cc time altitude spin phase) nothing refl refl)
queues-accepted c (command cc id sequence parameters) =
    queues-performed c (noted c cc id sequence) (decoded id parameters) refl refl
queues-accepted c (tick r) = queues-ticks c r
queues-accepted c (sample s x) = queues-sampled c s x
queues-accepted c (poll cc) = queues-polled c cc c.streams.queue refl
queues-accepted c (status cc low flags) = queues-none c c nothing refl refl
queues-accepted c (analogue bytes) = queues-none c (accepted c (analogue bytes)) nothing refl refl
queues-accepted c faulty = queues-none c c nothing refl refl

-- a refusal queues nothing and takes nothing away
pub queues-refused : (n : ℕ) (f : Frame) (c : Controller) → Queues c (refused n f c) nothing []
unfolding late_heard erred
queues-refused n f c =
    refused_any (λ d. Queues c d nothing []) n f c (queues-none c c nothing refl refl)
    (λ cc. queues-none c (late_heard c cc) nothing refl refl) (λ cc m. queues-none c (erred c cc m) nothing refl refl)

-- the law of a call
pub queues-step : (c : Controller) (x : Call) → Queues c (step c x.bytes x.room).next (takes_at c x) (sent_at c x)
unfolding step replied takes_at sent_at
queues-step c x = by (reply (holds c) f x.room) (eqb (reply (holds c) f x.room) 0) refl
  where
    f : Frame
    f = frame_of x.bytes

    o : Bool → ℕ → Outcome
    o b n = cond b (outcome 0 (answer c f) (accepted c f)) (outcome n [] (refused n f c))

    by : (n : ℕ) (b : Bool) → eqb n 0 ≡ b
        → Queues c (o b n).next (cond (is_accepted (o b n).reply) (takes f) nothing) (cond (is_accepted (o b n).reply) (sent c f) [])
    by n true e = queues-accepted c f
    by n false e = rw e (queues-refused n f c)

-- ---- what a call adds to each count

-- a count that goes on, or stays
abbrev raised_if : Bool → ℕ → ℕ
raised_if b n = cond b (raised n) n

abbrev raised8_if : Bool → ℕ → ℕ
raised8_if b n = cond b (raised8 n) n

-- the step: the counts u that a frame leaves, having got its reply, of the counts t before
pub record Adds (k : Count) (n : ℕ) (t u : Tallies) : Type 0 where
  pub broadcasts : (cc : Channel) → at cc u.broadcasts ≡ raised_if (raises_broadcasts cc k n) (at cc t.broadcasts)
  pub packets : (cc : Channel) → at cc u.packets ≡ raised_if (raises_packets cc k n) (at cc t.packets)
  pub telemetry : (cc : Channel) → at cc u.telemetry ≡ raised_if (raises_telemetry cc k n) (at cc t.telemetry)
  pub commands : u.commands ≡ raised_if (raises_commands k n) t.commands
  pub errors : u.errors ≡ raised8_if (raises_errors k n) t.errors

-- only the named channel's count goes on
at-raised : (cc dd : Channel) (m : Both) (b : Bool) → at cc (cond b (raised_at dd m) m) ≡ raised_if (same_channel cc dd && b) (at cc m)
at-raised cdmu_a cdmu_a m true = refl
at-raised cdmu_a cdmu_a m false = refl
at-raised cdmu_a cdmu_b m true = refl
at-raised cdmu_a cdmu_b m false = refl
at-raised cdmu_b cdmu_a m true = refl
at-raised cdmu_b cdmu_a m false = refl
at-raised cdmu_b cdmu_b m true = refl
at-raised cdmu_b cdmu_b m false = refl

-- a command is one on either channel
either_channel : (dd : Channel) → same_channel cdmu_a dd || same_channel cdmu_b dd ≡ true
either_channel cdmu_a = refl
either_channel cdmu_b = refl

tallies-moved : (c : Controller) → (moved c).tallies ≡ c.tallies
unfolding moved enter
tallies-moved c = by (same mode c.standing.mode)
  where
    mode : Mode
    mode =
        ruled c.standing
        (record { t = seconds c.clock.time; altitude = c.clock.altitude; collecting = collects c.impact.collection })

    by : (b : Bool) → (cond b c (enter c mode c.standing.locked (seconds c.clock.time))).tallies ≡ c.tallies
    by true = refl
    by false = refl

tallies-completed : (c : Controller) → (completed c).tallies ≡ c.tallies
unfolding completed queued enter
tallies-completed c = by c.standing.locked
  where
    done : Controller
    done = queued (with_impact c (ended c.impact)) acc_i (impact_packet c.impact)

    by : (b : Bool) → (cond b done (enter done surface false (seconds_of c.impact.stamp.time))).tallies ≡ c.tallies
    by true = refl
    by false = refl

tallies-ticks : (c : Controller) (r : ℕ) → (ticks c r).tallies ≡ c.tallies
unfolding ticks m_raised watching
tallies-ticks c r = by (in_proximity c) (completes c)
  where
    e : Controller
    e = with_impact (m_raised c) (with_reading c.impact r)

    by : (b f : Bool) → (cond b (cond f (completed e) (watching e)) (m_raised c)).tallies ≡ c.tallies
    by true true = tallies-completed e
    by true false = refl
    by false f = refl

tallies-sampled : (c : Controller) (s : ℕ) (x : List ℕ) → (sampled c s x).tallies ≡ c.tallies
unfolding sampled closed kept_open queued
tallies-sampled c s x = by (closes c s)
  where
    o : Open
    o = joined_by (c.streams.opened s) (stamp_now c s) x

    by : (b : Bool) → (cond b (closed c s o) (kept_open c s o)).tallies ≡ c.tallies
    by true = refl
    by false = refl

tallies-performed : (c : Controller) (d : Decoded) → (performed c d).tallies ≡ c.tallies
unfolding performed obeyed cleared commanded queued enter
tallies-performed c (request (clear mask)) = refl
tallies-performed c (request housekeeping) = refl
tallies-performed c (request (set_mode value)) = refl
tallies-performed c (refusal n) = refl

-- a frame that raises nobody's count adds to none
adds_none : (n : ℕ) (t : Tallies) → Adds of_none n t t
adds_none n t = record { broadcasts = λ cc. refl; packets = λ cc. refl; telemetry = λ cc. refl; commands = refl; errors = refl }

adds_polled : (c : Controller) (dd : Channel) (q : List (Piece (List ℕ))) → eqb (length q) 0 ≡ false
    → Adds (of_polls dd) 0 c.tallies (poll_answered_from c dd q).tallies
unfolding poll_answered_from poll_answered
adds_polled c dd [] h = absurd (eqb-false 0 0 h refl)
adds_polled c dd (p ∷ rest) h =
    record {
      broadcasts = λ cc. refl;
      packets = λ cc. refl;
      telemetry = λ cc. at-raised cc dd c.tallies.telemetry true;
      commands = refl;
      errors = refl;
    }

adds_accepted : (c : Controller) (f : Frame) → Clear c f 9 → Adds (count_of f) 0 c.tallies (accepted c f).tallies
unfolding accepted heard noted
adds_accepted c (broadcast dd time altitude spin phase) h =
    rw (tallies-moved (heard c dd time altitude spin phase))
    (record {
      broadcasts = λ cc. at-raised cc dd c.tallies.broadcasts true;
      packets = λ cc. refl;
      telemetry = λ cc. refl;
      commands = refl;
      errors = refl;
    })
adds_accepted c (command dd id sequence parameters) h =
    rw (tallies-performed (noted c dd id sequence) (decoded id parameters))
    (record {
      broadcasts = λ cc. refl;
      packets = λ cc. at-raised cc dd c.tallies.packets true;
      telemetry = λ cc. refl;
      commands = rw (either_channel dd);
      errors = rw (either_channel dd);
    })
adds_accepted c (tick r) h = rw (tallies-ticks c r) (adds_none 0 c.tallies)
adds_accepted c (sample s x) h = rw (tallies-sampled c s x) (adds_none 0 c.tallies)
adds_accepted c (poll cc) h = adds_polled c cc c.streams.queue h
adds_accepted c (status cc low flags) h = adds_none 0 c.tallies
adds_accepted c (analogue bytes) h = adds_none 0 c.tallies
adds_accepted c faulty h = adds_none 0 c.tallies

adds_refused : (n : ℕ) (k : Count) (c : Controller) → eqb n 0 ≡ false → Adds k n c.tallies (changed (change n k) c).tallies
unfolding late_heard erred
adds_refused n (of_broadcasts dd) c z = by (eqb n 5) refl
  where
    by : (b : Bool) → eqb n 5 ≡ b → Adds (of_broadcasts dd) n c.tallies (changed (cond b (late_on dd) unchanged) c).tallies
    by true e =
        record {
          broadcasts = λ cc. rw (z, e) (at-raised cc dd c.tallies.broadcasts true);
          packets = λ cc. refl;
          telemetry = λ cc. refl;
          commands = refl;
          errors = refl;
        }
    by false e =
        record {
          broadcasts = λ cc. rw (z, e) (at-raised cc dd c.tallies.broadcasts false);
          packets = λ cc. refl;
          telemetry = λ cc. refl;
          commands = refl;
          errors = refl;
        }
adds_refused n (of_commands dd) c z = by (is_error n) refl
  where
    by : (b : Bool) → is_error n ≡ b → Adds (of_commands dd) n c.tallies (changed (cond b (error_on dd n) unchanged) c).tallies
    by true e =
        record {
          broadcasts = λ cc. refl;
          packets = λ cc. rw (z, e) (at-raised cc dd c.tallies.packets true);
          telemetry = λ cc. refl;
          commands = rw (either_channel dd, z);
          errors = rw (either_channel dd, e);
        }
    by false e =
        record {
          broadcasts = λ cc. refl;
          packets = λ cc. rw (z, e) (at-raised cc dd c.tallies.packets false);
          telemetry = λ cc. refl;
          commands = rw (either_channel dd, z);
          errors = rw (either_channel dd, e);
        }
adds_refused n (of_polls dd) c z =
    record {
      broadcasts = λ cc. refl;
      packets = λ cc. refl;
      telemetry = λ cc. rw z (at-raised cc dd c.tallies.telemetry false);
      commands = refl;
      errors = refl;
    }
adds_refused n of_none c z = adds_none n c.tallies

pub adds_step : (c : Controller) (bytes : List ℕ) (room : ℕ)
    → Adds (count_of (frame_of bytes)) (step c bytes room).reply c.tallies (step c bytes room).next.tallies
unfolding step replied refused
adds_step c bytes room = by (reply (holds c) f room) refl (eqb (reply (holds c) f room) 0) refl
  where
    f : Frame
    f = frame_of bytes

    o : Bool → ℕ → Outcome
    o b n = cond b (outcome 0 (answer c f) (accepted c f)) (outcome n [] (refused n f c))

    by : (n : ℕ) → reply (holds c) f room ≡ n → (b : Bool) → eqb n 0 ≡ b
        → Adds (count_of f) (o b n).reply c.tallies (o b n).next.tallies
    by n r true e = adds_accepted c f (passed c f room (r ∙ eqb-true n 0 e)).waits
    by n r false e = adds_refused n (count_of f) c e

-- ---- counts along a run

how_many_snoc : (test : Count → ℕ → Bool) (h : List (Frame × ℕ)) (f : Frame) (n : ℕ)
    → how_many test (h ++ ((f, n) ∷ [])) ≡ how_many test h + cond (test (count_of f) n) 1 0
how_many_snoc test [] f n = omega arith
how_many_snoc test (e ∷ h) f n = let r = how_many_snoc test h f n in omega arith

pieces-append : (t : ℕ) (ps qs : List (ℕ × List ℕ)) → pieces_of t (ps ++ qs) ≡ pieces_of t ps + pieces_of t qs
pieces-append t [] qs = omega arith
pieces-append t (p ∷ ps) qs = let r = pieces-append t ps qs in omega arith

-- a raised count is the number with one more, modulo its size
raise : (b : Bool) (x m : ℕ) → x ≡ m % 65536 → raised_if b x ≡ (m + cond b 1 0) % 65536
raise true x m e = omega arith
raise false x m e = omega arith

raise8 : (b : Bool) (x m : ℕ) → x ≡ m % 256 → raised8_if b x ≡ (m + cond b 1 0) % 256
raise8 true x m e = omega arith
raise8 false x m e = omega arith

module _ (test : Count → ℕ → Bool) (h : List (Frame × ℕ)) (f : Frame) (n x : ℕ) where
  goes_on : x ≡ how_many test h % 65536 → raised_if (test (count_of f) n) x ≡ how_many test (h ++ ((f, n) ∷ [])) % 65536
  goes_on e = rw how_many_snoc (raise (test (count_of f) n) x (how_many test h) e)

  goes_on8 : x ≡ how_many test h % 256 → raised8_if (test (count_of f) n) x ≡ how_many test (h ++ ((f, n) ∷ [])) % 256
  goes_on8 e = rw how_many_snoc (raise8 (test (count_of f) n) x (how_many test h) e)

-- counts go on by a packet's pieces
length-chunks : (n k : ℕ) (l : List ℕ) → length (chunks n k l) ≡ k
length-chunks n zero l = refl
length-chunks n (suc k) l = ap suc (length-chunks n k (drop n l))

pub length_cut : (k : ℕ) (x : List ℕ) → length (cut k x) ≡ k
unfolding cut
length_cut k x = length-chunks 118 k _

pub after-wrap : (m : ℕ) (xs : List (List ℕ)) (n : ℕ) → n ≡ m % 4096 → after wrap n xs ≡ (m + length xs) % 4096
unfolding after
after-wrap m [] n e = omega arith
after-wrap m (x ∷ xs) n e = after-wrap (suc m) xs (wrap n) (omega arith) ∙ ap (λ k. k % 4096) (omega arith)

pub counts-after : (ps : List (ℕ × List ℕ)) (counts : ℕ → ℕ) (t m : ℕ) → counts t ≡ m % 4096
    → counts_after wrap counts ps t ≡ (m + pieces_of t ps) % 4096
unfolding counts_after replaced
counts-after [] counts t m e = omega arith
counts-after (p ∷ ps) counts t m e = counts-after ps _ t _ (by (eqb p.0 t) refl) ∙ ap (λ k. k % 4096) (omega arith)
  where
    by : (b : Bool) → eqb p.0 t ≡ b
        → cond b (after wrap (counts p.0) (cut (pieces p.0) p.1)) (counts t) ≡ (m + cond b (pieces t) 0) % 4096
    by true q =
        rw (eqb-true p.0 t q) (after-wrap m (cut (pieces t) p.1) (counts t) e ∙ rw (length_cut (pieces t) p.1))
    by false q = omega arith

counted_step : (c : Controller) (x : Call) (h : List (Frame × ℕ)) (ps : List (ℕ × List ℕ)) → Counted c h ps
    → Counted (step c x.bytes x.room).next (h ++ ((frame_of x.bytes, (step c x.bytes x.room).reply) ∷ []))
    (ps ++ sent_at c x)
counted_step c x h ps k =
    record {
      broadcasts = λ cc. a.broadcasts cc ∙ goes_on (raises_broadcasts cc) h f n _ (k.broadcasts cc);
      packets = λ cc. a.packets cc ∙ goes_on (raises_packets cc) h f n _ (k.packets cc);
      telemetry = λ cc. a.telemetry cc ∙ goes_on (raises_telemetry cc) h f n _ (k.telemetry cc);
      commands = a.commands ∙ goes_on raises_commands h f n _ k.commands;
      errors = a.errors ∙ goes_on8 raises_errors h f n _ k.errors;
      streams =
          λ t.
          ap (λ g. g t) (queues-step c x).counts
          ∙ counts-after (sent_at c x) c.streams.counts t (pieces_of t ps) (k.streams t)
          ∙ rw (pieces-append t ps (sent_at c x));
    }
  where
    f : Frame
    f = frame_of x.bytes

    n : ℕ
    n = (step c x.bytes x.room).reply

    a : Adds (count_of f) n c.tallies (step c x.bytes x.room).next.tallies
    a = adds_step c x.bytes x.room

-- from any history so far
pub counted_runs : (xs : List Call) (c : Controller) (h : List (Frame × ℕ)) (ps : List (ℕ × List ℕ)) → Counted c h ps
    → Counted (runs c xs) (h ++ history c xs) (ps ++ sent_by c xs)
unfolding runs history sent_by
counted_runs [] c h ps k = rw (append-nil h, append-nil ps) k
counted_runs (x ∷ xs) c h ps k =
    simp append_assoc at (counted_runs xs (step c x.bytes x.room).next _ _ (counted_step c x h ps k))

-- From a fresh start, over any calls: broadcast, command packet, telemetry and command counts are the history's numbers modulo
-- 65536, the error count modulo 256, and each stream's next count is the number of pieces ever queued, modulo 4096.
pub counted : (xs : List Call) → Counted (runs start xs) (history start xs) (sent_by start xs)
counted xs = counted_runs xs start [] [] fresh
  where
    fresh : Counted start [] []
    fresh = unfold start in
        record {
          broadcasts = λ cc. zeros cc;
          packets = λ cc. zeros cc;
          telemetry = λ cc. zeros cc;
          commands = refl;
          errors = refl;
          streams = λ t. refl;
        }
      where
        zeros : (cc : Channel) → at cc (record { a = 0; b = 0 }) ≡ 0
        zeros cdmu_a = refl
        zeros cdmu_b = refl
