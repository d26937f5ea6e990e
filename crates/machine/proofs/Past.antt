-- What a call leaves of the lent bytes around the controller's numbers: the mark in front, all bytes past the state, and how many
-- there are. `..-past` says it of each definition of specs/.
-- Assumes nothing.
use mathlib.Core.Path.{◌≡◌, refl, ◌∙◌}
use mathlib.Core.Bool.{Bool, true, false, cond, not, ◌&&◌}
use mathlib.Core.List.{List, [], ◌∷◌, ◌++◌}
use mathlib.Core.Logic.{inr}
use Prim.Native.Nat.{ℕ, zero, suc, ◌+◌, ◌*◌, ◌%◌, ◌≤◌, ◌<◌}
use native.Mathlib.Nat.{min-le_left}
use native.Mathlib.Omega.{arith}
use lib.Dec.{eqb, leb}
use lib.ListN.{length, take, drop, get_or, length-take, length-replicate}
use borrow.Author.Tests.{eqb-true, not-false}
use Rattle.wire.specs.Wire.{be16, be24, bytes16, bytes24, part, put, raised_on}
use Rattle.wire.proofs.Runs.{length-put, get_or-put_after}
use Rattle.impact.specs.Window.{window_of, window_after}
use Rattle.paper.specs.Clock.{now, seconds, seconds_of, ticked}
use Rattle.paper.specs.Mode.{nibble, same, ruled}
use Rattle.paper.specs.Impact.{above, declares}
use Rattle.paper.specs.Commands.{names, Request, clear, housekeeping, set_mode, Decoded, request, refusal, decoded}
use Rattle.paper.specs.Frames.{Channel, cdmu_a, cdmu_b, Frame, broadcast, command, tick, sample, poll, status, analogue, faulty, frame_of}
use Rattle.paper.specs.Streams.{acc_i, hk, pieces, per_packet, width, has_samples}
use Rattle.paper.specs.Packets.{data_of, datastream, mode_byte, filled}
use Rattle.paper.specs.Controller.{raised, raised8, stamp_now}
use Rattle.paper.specs.Housekeeping.{housekeeping_packet}
use Rattle.paper.specs.Acts.{impact_packet}
use Rattle.paper.specs.Step.{holds, reply, count_of, change}
use Rattle.paper.proofs.Table.{carried-small, sampled-carried}
use Rattle.paper.proofs.Shapes.{Shaped, shaped}
use Rattle.paper.proofs.Refusals.{Passed, passed, any_change}
use Rattle.state.specs.Layout.{controller_mark, time_at, m_at, nibble_at, flag_at, impact_time_at, window_at, oldest_at, further_at, commands_at, broadcasts_at, packets_at, telemetry_at, errors_at, sequence_at, first_at, waiting_at, housed_at, streams, count_at, open_at, samples_at, stays_open, ring_at, slot_at, state_bytes}
use Rattle.state.specs.View.{clock_in, standing_in, impact_in, samples_in, held_in, view, nibble_in, window_in, oldest_in, first_in, waiting_in}
use Rattle.state.specs.Range.{Fit, fit, Whole}
use Rattle.lent.specs.Told.{Res}
use Rattle.lent.specs.Fitting.{mark_at}
use Rattle.lent.proofs.Fitting.{fitting_true, fitting-kept, drop_rest}
use Rattle.lent.proofs.Same.{Same, same_refl, same_trans, put_same}
use Rattle.state.proofs.Apart.{room}
use Rattle.machine.specs.Stores.{slot, laid, queued_on, dropped_on, Swept, sweep, shut, cleared_on}
use Rattle.machine.specs.Built.{sent_on, housekept_on, impact_record_on, stamp_in, full_on, single_on}
use Rattle.machine.specs.Entered.{no_ring, emptied_on, entry_run, entered_on}
use Rattle.machine.specs.Heard.{heard_on, seen_in, moved_on}
use Rattle.machine.specs.Ticked.{m_raised_on, with_reading_on, declared_on, detected_on, watched_on, completed_on, ticked_on}
use Rattle.machine.specs.Sampled.{stamped_on, stored_on, kept_on, sampled_on}
use Rattle.machine.specs.Obeyed.{noted_on, erred_on, commanded_on, obeyed_on, performed_on}
use Rattle.machine.specs.Polled.{poll_answered_on}
use Rattle.machine.specs.Called.{acted_on, changed_on, refused_on, left_on, told_on, replied_on, step_of}

-- ---- lists that agree around the numbers

pub record Past (x s : List ℕ) : Type 0 where
  pub long : length x ≡ length s
  pub mark : Same x s mark_at time_at
  pub rest : (i : ℕ) → state_bytes ≤ i → get_or x i 0 ≡ get_or s i 0

-- so as many as are needed stay as many
pub past-whole : {x s : List ℕ} → Past x s → Whole s → Whole x
past-whole p w = omega (arith, p.long)

pub past-fit : {x s : List ℕ} → Past x s → Fit s → Fit x
past-fit p f = fitting-kept f (past-whole p f.whole) p.mark

pub past_refl : (s : List ℕ) → Past s s
past_refl s = record { long = refl; mark = same_refl s mark_at time_at; rest = λ i h. refl }

pub past_trans : {x y s : List ℕ} → Past x y → Past y s → Past x s
past_trans p q =
    record { long = p.long ∙ q.long; mark = same_trans p.mark q.mark; rest = λ i h. p.rest i h ∙ q.rest i h }

-- a run that stands among the numbers
pub record Among (at : ℕ) (v : List ℕ) : Type 0 where
  pub low : time_at ≤ at
  pub high : at + length v ≤ state_bytes

pub past-put : (s : List ℕ) (at : ℕ) (v : List ℕ) → Among at v → Whole s → Past (put s at v) s
past-put s at v h w =
    let fits : at + length v ≤ length s = omega (arith, h.high) in
    record {
      long = length-put s at v fits;
      mark = put_same s at v fits mark_at time_at (inr h.low);
      rest = λ i b. get_or-put_after s at v fits i (omega (arith, h.high));
    }

-- what is done to the bytes that something left, which are as many
pub past_then : {x y s : List ℕ} → Whole s → Past y s → (Whole y → Past x y) → Past x s
past_then w p next = past_trans (next (past-whole p w)) p

-- one of two, by a test
either : {A : Type 0} (P : A → Type 0) (c : Bool) (a b : A) → (c ≡ true → P a) → (c ≡ false → P b) → P (cond c a b)
either P true a b p q = p refl
either P false a b p q = q refl

past_either : (c : Bool) {x y s : List ℕ} → Past x s → Past y s → Past (cond c x y) s
past_either c {x} {y} {s} p q = either (λ (r : List ℕ). Past r s) c x y (λ e. p) (λ e. q)

take_most : (n : ℕ) (x : List ℕ) → length (take n x) ≤ n
take_most n x = rw length-take (min-le_left n (length x))

-- ---- the queue

pub laid-past : (s : List ℕ) (i n t k : ℕ) (x : List ℕ) → Whole s → Past (laid s i n t k x) s
unfolding laid
laid-past s i n t zero x w = past_refl s
laid-past s i n t (suc k) x w =
    past_then w (past-put s (slot_at (i % 48)) (slot t n (take 118 x)) (omega (arith, take_most 118 x)) w)
    (laid-past (put s (slot_at (i % 48)) (slot t n (take 118 x))) (i + 1) (n + 1) t k (drop 118 x))

pub queued-past : (s : List ℕ) (t k : ℕ) (x : List ℕ) → t < streams → Whole s → Past (queued_on s t k x) s
unfolding queued_on
queued-past s t k x l w =
    past_then w
    (past_then w (laid-past s (first_in s + waiting_in s) (be16 s (count_at t)) t k x w)
    (past-put _ waiting_at ((waiting_in s + k) ∷ []) (omega arith)))
    (past-put _ (count_at t) (bytes16 ((be16 s (count_at t) + k) % 65536)) (omega arith))

pub dropped_past : (s : List ℕ) → Whole s → Past (dropped_on s) s
unfolding dropped_on
dropped_past s = past-put s first_at (_ ∷ _ ∷ []) (omega arith)

pub sweep-past : (mask first : ℕ) (s : List ℕ) (i j n : ℕ) → Whole s
    → Past (sweep mask first s i j n).bytes s
unfolding sweep
sweep-past mask first s i j zero w = past_refl s
sweep-past mask first s i j (suc n) w =
    let v : List ℕ = part s (slot_at ((first + i) % 48)) 120 in
    let to : ℕ = slot_at ((first + j) % 48) in
    let goes = sweep-past mask first s (i + 1) j n w in
    let stays =
    past_then w (past-put s to v (omega (arith, take_most 120 (drop (slot_at ((first + i) % 48)) s))) w)
    (sweep-past mask first (put s to v) (i + 1) (j + 1) n) in
    either (λ (r : Swept). Past r.bytes s) (names mask (be16 s (slot_at ((first + i) % 48)) % 16)) _ _ (λ e. goes) (λ e. stays)

pub shut-past : (mask : ℕ) (s : List ℕ) (n : ℕ) → n ≤ streams → Whole s → Past (shut mask s n) s
unfolding shut
shut-past mask s zero l w = past_refl s
shut-past mask s (suc t) l w =
    let below = shut-past mask s t (omega arith) w in
    past_either (names mask t) (past_then w below (past-put (shut mask s t) (open_at t) (0 ∷ []) (omega arith))) below

pub cleared-past : (s : List ℕ) (mask : ℕ) → Whole s → Past (cleared_on s mask) s
unfolding cleared_on
cleared-past s mask w =
    past_then w
    (past_then w (sweep-past mask (first_in s) s 0 0 (waiting_in s) w)
    (past-put _ waiting_at (_ ∷ []) (omega arith)))
    (shut-past mask _ streams (omega arith))

-- ---- packets

pub sent-past : (s : List ℕ) (t : ℕ) (x : List ℕ) → t < streams → Whole s → Past (sent_on s t x) s
sent-past s t x = queued-past s t (pieces t) (filled (pieces t) x)

pub housekept_past : (s : List ℕ) → Whole s → Past (housekept_on s) s
unfolding housekept_on
housekept_past s = sent-past s hk (housekeeping_packet (view s)) (omega arith)

pub recorded_past : (s : List ℕ) → Whole s → Past (impact_record_on s) s
unfolding impact_record_on
recorded_past s = sent-past s acc_i (impact_packet (impact_in s)) (omega arith)

pub full_past : (s : List ℕ) (t : ℕ) → t < streams → Whole s → Past (full_on s t) s
unfolding full_on
full_past s t = sent-past s t (datastream (stamp_in s t) (data_of t (samples_in s t (per_packet t))))

pub single_past : (s : List ℕ) (t : ℕ) (x : List ℕ) → t < streams → Whole s → Past (single_on s t x) s
unfolding single_on
single_past s t x = sent-past s t (datastream (stamp_now (view s) t) (data_of t (x ∷ [])))

-- ---- counts and entries

-- a place of a count
pub record Count (at : ℕ) : Type 0 where
  pub low : commands_at ≤ at
  pub high : at + 2 ≤ errors_at

pub broadcasts-at : (cc : Channel) → Count (broadcasts_at cc)
broadcasts-at cdmu_a = omega arith
broadcasts-at cdmu_b = omega arith

pub packets-at : (cc : Channel) → Count (packets_at cc)
packets-at cdmu_a = omega arith
packets-at cdmu_b = omega arith

pub telemetry-at : (cc : Channel) → Count (telemetry_at cc)
telemetry-at cdmu_a = omega arith
telemetry-at cdmu_b = omega arith

pub raised-past : (s : List ℕ) (at : ℕ) → Count at → Whole s → Past (raised_on s at) s
unfolding raised_on
raised-past s at c = past-put s at (bytes16 (raised (be16 s at))) (omega (arith, c.low, c.high))

pub length-no_ring : length no_ring ≡ 1024
unfolding no_ring
length-no_ring = length-replicate {A = ℕ} 1024 0

pub emptied-past : (s : List ℕ) → Whole s → Past (emptied_on s) s
unfolding emptied_on
emptied-past s w =
    past_then w
    (past_then w (past-put s flag_at (0 ∷ []) (omega arith) w) (past-put _ window_at (0 ∷ []) (omega arith)))
    (past-put _ ring_at no_ring (omega (arith, length-no_ring)))

pub entered-past : (s : List ℕ) (nibble reference : ℕ) → Whole s → Past (entered_on s nibble reference) s
unfolding entered_on
entered-past s nibble reference w =
    let run = past-put s nibble_at (entry_run s nibble reference) (omega arith) w in
    past_either (eqb (nibble % 8) 4) (past_then w run (emptied-past _)) run

-- ---- broadcasts

pub heard-past : (s : List ℕ) (cc : Channel) (time altitude spin phase : ℕ) → Whole s
    → Past (heard_on s cc time altitude spin phase) s
unfolding heard_on
heard-past s cc time altitude spin phase w =
    past_then w (raised-past s (broadcasts_at cc) (broadcasts-at cc) w)
    (past-put _ time_at (bytes16 time ++ (bytes16 altitude ++ (spin ∷ phase ∷ 0 ∷ 0 ∷ []))) (omega arith))

pub moved-past : (s : List ℕ) → Whole s → Past (moved_on s) s
unfolding moved_on
moved-past s w =
    past_either (same (ruled (standing_in s) (seen_in s)) (standing_in s).mode) (past_refl s)
    (entered-past s (nibble (ruled (standing_in s) (seen_in s)) (standing_in s).locked) (seconds (be16 s time_at)) w)

-- ---- ticks

pub counted_past : (s : List ℕ) → Whole s → Past (m_raised_on s) s
unfolding m_raised_on
counted_past s = past-put s m_at (bytes16 (ticked (be16 s m_at))) (omega arith)

pub taken-past : (s : List ℕ) (r : ℕ) → Whole s → Past (with_reading_on s r) s
unfolding with_reading_on
taken-past s r w =
    past_then w
    (past_then w (past-put s (ring_at + 2 * oldest_in s) (bytes16 r) (omega arith) w)
    (past-put _ window_at (window_after (window_in s) (above r) ∷ []) (omega arith)))
    (past-put _ oldest_at (bytes16 ((oldest_in s + 1) % 512)) (omega arith))

-- the collection's number stored
pub further_past : (s : List ℕ) (n : ℕ) → Whole s → Past (put s further_at (bytes16 n)) s
further_past s n = past-put s further_at (bytes16 n) (omega arith)

pub declared_past : (s : List ℕ) → Whole s → Past (declared_on s) s
unfolding declared_on
declared_past s w =
    past_then w (past-put s flag_at (1 ∷ (bytes24 (now (clock_in s)) ++ (mode_byte acc_i (nibble_in s) ∷ []))) (omega arith) w)
    (further_past _ 1)

pub detected-past : (s : List ℕ) → Whole s → Past (detected_on s) s
unfolding detected_on
detected-past s w =
    past_either (not (eqb (get_or s flag_at 0) 1) && declares (window_of (window_in s))) (declared_past s w) (past_refl s)

pub watched-past : (s : List ℕ) → Whole s → Past (watched_on s) s
unfolding watched_on
watched-past s w =
    past_either (eqb (be16 s further_at) 0) (detected-past s w) (further_past s (be16 s further_at + 1) w)

pub completed-past : (s : List ℕ) → Whole s → Past (completed_on s) s
unfolding completed_on
completed-past s w =
    let done = past_then w (further_past s 0 w) (recorded_past (put s further_at (bytes16 0))) in
    past_either (leb 8 (nibble_in s)) done (past_then w done (entered-past _ 5 (seconds_of (be24 s impact_time_at))))

pub ticked-past : (s : List ℕ) (r : ℕ) → Whole s → Past (ticked_on s r) s
unfolding ticked_on
ticked-past s r w =
    let counted = counted_past s w in
    let taken = past_then w counted (taken-past (m_raised_on s) r) in
    past_either (eqb (nibble_in s % 8) 4)
    (past_either (leb 448 (be16 s further_at)) (past_then w taken (completed-past _)) (past_then w taken (watched-past _))) counted

-- ---- samples

pub stamped_past : (s : List ℕ) (t : ℕ) → t < streams → Whole s → Past (stamped_on s t) s
unfolding stamped_on
stamped_past s t l w =
    past_either (eqb (held_in s t) 0)
    (past-put s (open_at t + 1) (bytes24 (now (clock_in s)) ++ (mode_byte t (nibble_in s) ∷ [])) (omega arith) w) (past_refl s)

-- a stream's open packet has room for the sample
module _ (s : List ℕ) (t : ℕ) (x : List ℕ) (l : t < streams) (h : held_in s t * width t + length x ≤ 145) where
  pub stored_past : Whole s → Past (stored_on s t x) s
  unfolding stored_on
  stored_past w =
      past_then w (stamped_past s t l w) (past-put _ (samples_at t + held_in s t * width t) x (omega arith))

  pub kept-past : Whole s → Past (kept_on s t x) s
  unfolding kept_on
  kept-past w =
      let stored = stored_past w in
      past_either (eqb (held_in s t + 1) (per_packet t))
      (past_then w (past_then w stored (full_past (stored_on s t x) t l)) (past-put _ (open_at t) (0 ∷ []) (omega arith)))
      (past_then w stored (past-put _ (open_at t) ((held_in s t + 1) ∷ []) (omega arith)))

pub sampled-past : (s : List ℕ) (t : ℕ) (x : List ℕ) → Whole s → has_samples t ≡ true → length x ≡ width t
    → Past (sampled_on s t x) s
unfolding sampled_on
sampled-past s t x f carried long =
    either (λ (r : List ℕ). Past r s) (stays_open t) _ _
    (λ e.
    let r = room s t e in
    kept-past s t x r.small (omega (arith, r.fits)) f)
    (λ e. single_past s t x (carried-small t (sampled-carried t carried)) f)

-- ---- commands

pub noted-past : (s : List ℕ) (cc : Channel) (id sequence : ℕ) → Whole s → Past (noted_on s cc id sequence) s
unfolding noted_on
noted-past s cc id sequence w =
    past_then w
    (past_then w (raised-past s (packets_at cc) (packets-at cc) w) (raised-past _ commands_at (omega arith)))
    (past-put _ sequence_at (sequence % 256 ∷ id % 256 ∷ []) (omega arith))

pub erred-past : (s : List ℕ) (cc : Channel) (n : ℕ) → Whole s → Past (erred_on s cc n) s
unfolding erred_on
erred-past s cc n w =
    past_then w (raised-past s (packets_at cc) (packets-at cc) w)
    (past-put _ errors_at (raised8 (get_or s errors_at 0) ∷ n ∷ []) (omega arith))

pub commanded-past : (s : List ℕ) (value : ℕ) → Whole s → Past (commanded_on s value) s
unfolding commanded_on
commanded-past s value w = past_then w (further_past s 0 w) (entered-past _ value (seconds (be16 s time_at)))

pub obeyed-past : (s : List ℕ) (q : Request) → Whole s → Past (obeyed_on s q) s
unfolding obeyed_on
obeyed-past s (clear mask) = cleared-past s mask
obeyed-past s housekeeping = housekept_past s
obeyed-past s (set_mode value) = commanded-past s value

pub performed-past : (s : List ℕ) (d : Decoded) → Whole s → Past (performed_on s d) s
unfolding performed_on
performed-past s (request q) w = obeyed-past s q w
performed-past s (refusal n) w = past_refl s

-- ---- polls

pub polled-past : (s : List ℕ) (cc : Channel) → Whole s → Past (poll_answered_on s cc) s
unfolding poll_answered_on
polled-past s cc w =
    past_then w (dropped_past s w) (raised-past (dropped_on s) (telemetry_at cc) (telemetry-at cc))

-- ---- a frame that is accepted, and one that is refused

pub acted_past : (s : List ℕ) (f : Frame) (room : ℕ) → Whole s → Shaped (λ x. Unit {0}) f → Passed (view s) f room → Past (acted_on s f) s
unfolding acted_on
acted_past s (broadcast cc time altitude spin phase) n f h p =
    past_then f (heard-past s cc time altitude spin phase f) (moved-past _)
acted_past s (command cc id sequence parameters) n f h p =
    past_then f (noted-past s cc id sequence f) (performed-past _ (decoded id parameters))
acted_past s (tick r) n f h p = ticked-past s r f
acted_past s (sample t x) n f h p =
    sampled-past s t x f (not-false (has_samples t) p.carries)
    (eqb-true (length x) (width t) (not-false (eqb (length x) (width t)) p.sized))
acted_past s (poll cc) n f h p = polled-past s cc f
acted_past s (status cc low flags) n f h p = past_refl s
acted_past s (analogue x) n f h p = past-put s housed_at x (omega arith) f
acted_past s faulty n f h p = past_refl s

pub refused-past : (s : List ℕ) (n : ℕ) (f : Frame) → Whole s → Past (refused_on s n f) s
unfolding refused_on
refused-past s n f w =
    any_change (λ x. Past (changed_on s x) s) (past_refl s)
    (λ cc. raised-past s (broadcasts_at cc) (broadcasts-at cc) w) (λ cc m. erred-past s cc m w) (change n (count_of f))

-- ---- one call

pub call-past : (s f o : List ℕ) → Past (step_of s f o).state s
unfolding step_of replied_on told_on left_on
call-past s f o =
    either (λ (r : Res). Past r.state s) (fit s) _ _
    (λ e.
    let fits = fitting_true state_bytes controller_mark s e in
    either (λ (x : List ℕ). Past x s) (eqb (reply (holds (view s)) (frame_of f) (length o)) 0) _ _
    (λ z. acted_past s (frame_of f) (length o) fits.whole (shaped (λ x. Unit {0}) f tt) (passed (view s) (frame_of f) (length o) (eqb-true _ _ z)))
    (λ z. refused-past s _ (frame_of f) fits.whole))
    (λ e. past_refl s)

pub call_tail : (s f o : List ℕ) → drop state_bytes (step_of s f o).state ≡ drop state_bytes s
call_tail s f o =
    let p = call-past s f o in
    drop_rest state_bytes (step_of s f o).state s p.long p.rest
