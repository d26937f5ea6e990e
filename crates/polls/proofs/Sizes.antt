-- The sizes of what the controller holds for packets to come, along any run from a fresh start: the ring has 512 readings, the
-- bytes of the last frame 07 are 58, and an open packet is not full and has samples of its stream's width.
-- Assumes nothing.
use mathlib.Core.Path.{◌≡◌, refl, ap, ◌∙◌, subst}
use mathlib.Core.Logic.{◌≢◌}
use mathlib.Core.Bool.{Bool, true, false, cond, not, ◌&&◌}
use mathlib.Core.List.{List, [], ◌∷◌}
use Prim.Native.Nat.{ℕ, suc, ◌-◌, ◌%◌, ◌≤◌}
use native.Mathlib.Omega.{arith}
use lib.Dec.{eqb, leb}
use lib.ListN.{length, drop, length-append, length-drop, length-replicate}
use borrow.Author.Tests.{eqb-true, eqb-false, ltb-true, not-false}
use Rattle.paper.specs.Frames.{Channel, Frame, broadcast, command, tick, sample, poll, status, analogue, faulty, frame_of}
use Rattle.paper.specs.Clock.{seconds, seconds_of}
use Rattle.paper.specs.Mode.{Mode, surface, proximity, same, mode_of, ruled}
use Rattle.paper.specs.Impact.{Impact, Stamp, Collection, idle, running, collects, no_comparison, no_reading, declares}
use Rattle.paper.specs.Commands.{clear, housekeeping, set_mode, Decoded, request, refusal, names, decoded}
use Rattle.paper.specs.Streams.{acc_i, per_packet, width, has_samples}
use Rattle.paper.specs.Queue.{Piece, replaced}
use Rattle.paper.specs.Controller.{Open, nothing_open, Controller, start, queued, with_impact, stamp_now}
use Rattle.paper.specs.Acts.{emptied, enter, heard, moved, m_raised, in_proximity, completes, with_reading, detected, watched, watching, ended, impact_packet, completed, ticks, joined_by, closes, closed, kept_open, sampled, noted, cleared, commanded, obeyed, poll_answered, performed, poll_answered_from, accepted, answer}
use Rattle.paper.specs.Step.{holds, reply, late_heard, erred, refused, outcome, replied, step}
use Rattle.paper.specs.Runs.{Call, runs}
use Rattle.paper.proofs.All.{All, all_append}
use Rattle.paper.proofs.Shapes.{Shaped, shaped}
use Rattle.paper.proofs.Refusals.{Passed, passed, refused_any}

-- ---- what the controller holds for packets to come

-- samples of w bytes each
abbrev pub Each : ℕ → List (List ℕ) → Type 0
Each w = All (λ x. length x ≡ w)

-- An open packet is not full, and its samples have their stream's width. (A stream without sample frames has none open: its
-- `per_packet` is 0.)
abbrev pub Fits : ℕ → Open → Type 0
Fits s o = (length o.samples ≤ per_packet s - 1) × Each (width s) o.samples

pub record Sized (ring housed : List ℕ) (opened : ℕ → Open) : Type 0 where
  pub readings : length ring ≡ 512
  pub analogues : length housed ≡ 58
  pub fits : (s : ℕ) → Fits s (opened s)

abbrev pub Sizes : Controller → Type 0
Sizes c = Sized c.impact.ring c.housed c.streams.opened

pub sizes-start : Sizes start
unfolding start
sizes-start = record { readings = length-replicate {A = ℕ} 512 0; analogues = length-replicate {A = ℕ} 58 0; fits = λ s. (omega arith, tt) }

-- another ring of 512
with-ring : {ring housed : List ℕ} {opened : ℕ → Open} (other : List ℕ) → Sized ring housed opened → length other ≡ 512 → Sized other housed opened
with-ring other k e = record { readings = e; analogues = k.analogues; fits = k.fits }

-- other open packets
with_open : {ring housed : List ℕ} {opened : ℕ → Open} (other : ℕ → Open) → Sized ring housed opened → ((s : ℕ) → Fits s (other s))
    → Sized ring housed other
with_open other k f = record { readings = k.readings; analogues = k.analogues; fits = f }

nothing-fits : (b : Bool) (s : ℕ) (o : Open) → Fits s o → Fits s (cond b nothing_open o)
nothing-fits true s o f = (omega arith, tt)
nothing-fits false s o f = f

put-fits : (opened : ℕ → Open) (s : ℕ) (o : Open) → ((t : ℕ) → Fits t (opened t)) → Fits s o → (t : ℕ) → Fits t (replaced opened s o t)
unfolding replaced
put-fits opened s o f g t = by (eqb s t) refl
  where
    by : (b : Bool) → eqb s t ≡ b → Fits t (cond b o (opened t))
    by true e = subst (λ u. Fits u o) (eqb-true s t e) g
    by false e = f t

ring-emptied : (mode : Mode) (i : Impact) → length i.ring ≡ 512 → length (emptied mode i).ring ≡ 512
unfolding emptied
ring-emptied mode i l = by (same mode proximity)
  where
    by : (b : Bool) → length (cond b (record { flag = false; stamp = i.stamp; window = no_comparison; ring = no_reading; collection = i.collection }) i).ring ≡ 512
    by true = length-replicate {A = ℕ} 512 0
    by false = l

sizes-enter : (c : Controller) (mode : Mode) (locked : Bool) (reference : ℕ) → Sizes c → Sizes (enter c mode locked reference)
unfolding enter
sizes-enter c mode locked reference k = with-ring _ k (ring-emptied mode c.impact k.readings)

sizes-moved : (c : Controller) → Sizes c → Sizes (moved c)
unfolding moved
sizes-moved c k = by (same mode c.standing.mode)
  where
    t : ℕ
    t = seconds c.clock.time

    mode : Mode
    mode = ruled c.standing (record { t = t; altitude = c.clock.altitude; collecting = collects c.impact.collection })

    by : (b : Bool) → Sizes (cond b c (enter c mode c.standing.locked t))
    by true = k
    by false = sizes-enter c mode c.standing.locked t k

-- the ring with a reading more
pub taken-ring : (i : Impact) (r : ℕ) → length i.ring ≡ 512 → length (with_reading i r).ring ≡ 512
unfolding with_reading
taken-ring i r l = omega (arith, l, length-append (drop 1 i.ring) (r ∷ []), length-drop 1 i.ring)

watched-ring : (k : Collection) (i : Impact) (st : Stamp) → (watched k i st).ring ≡ i.ring
unfolding watched detected
watched-ring idle i st = by (not i.flag && declares i.window)
  where
    by : (b : Bool) → (cond b (record { flag = true; stamp = st; window = i.window; ring = i.ring; collection = running 0 }) i).ring ≡ i.ring
    by true = refl
    by false = refl
watched-ring (running k) i st = refl

sizes-completed : (c : Controller) → Sizes c → Sizes (completed c)
unfolding completed queued
sizes-completed c k = by c.standing.locked
  where
    done : Controller
    done = queued (with_impact c (ended c.impact)) acc_i (impact_packet c.impact)

    by : (b : Bool) → Sizes (cond b done (enter done surface false (seconds_of c.impact.stamp.time)))
    by true = k
    by false = sizes-enter done surface false (seconds_of c.impact.stamp.time) k

sizes-ticks : (c : Controller) (r : ℕ) → Sizes c → Sizes (ticks c r)
unfolding ticks m_raised watching
sizes-ticks c r k = by (in_proximity c) (completes c)
  where
    e : Controller
    e = with_impact (m_raised c) (with_reading c.impact r)

    held : Sizes e
    held = with-ring _ k (taken-ring c.impact r k.readings)

    by : (b f : Bool) → Sizes (cond b (cond f (completed e) (watching e)) (m_raised c))
    by true true = sizes-completed e held
    by true false = with-ring _ held (ap length (watched-ring e.impact.collection e.impact (stamp_now e acc_i)) ∙ held.readings)
    by false f = k

sizes-sampled : (c : Controller) (s : ℕ) (x : List ℕ) → has_samples s ≡ true → length x ≡ width s → Sizes c → Sizes (sampled c s x)
unfolding sampled closed kept_open queued joined_by
sizes-sampled c s x h l k = by (closes c s) refl
  where
    o : Open
    o = joined_by (c.streams.opened s) (stamp_now c s) x

    by : (b : Bool) → closes c s ≡ b → Sizes (cond b (closed c s o) (kept_open c s o))
    by true e = with_open _ k (put-fits c.streams.opened s nothing_open k.fits (omega arith, tt))
    by false e =
        let few : suc (length (c.streams.opened s).samples) ≢ per_packet s = eqb-false _ _ e in
        with_open _ k
        (put-fits c.streams.opened s o k.fits (
          omega (arith, ltb-true 0 (per_packet s) h, (k.fits s).0, few, length-append (c.streams.opened s).samples (x ∷ [])),
          all_append _ (c.streams.opened s).samples (x ∷ []) (k.fits s).1 (l, tt),
        ))

sizes-performed : (c : Controller) (d : Decoded) → Sizes c → Sizes (performed c d)
unfolding performed obeyed cleared commanded queued
sizes-performed c (request (clear mask)) k = with_open _ k (λ s. nothing-fits (names mask s) s (c.streams.opened s) (k.fits s))
sizes-performed c (request housekeeping) k = k
sizes-performed c (request (set_mode value)) k =
    sizes-enter (with_impact c (ended c.impact)) (mode_of (value % 8)) (leb 8 value) (seconds c.clock.time) k
sizes-performed c (refusal n) k = k

sizes-polled : (c : Controller) (cc : Channel) (q : List (Piece (List ℕ))) → Sizes c → Sizes (poll_answered_from c cc q)
unfolding poll_answered_from poll_answered
sizes-polled c cc [] k = k
sizes-polled c cc (p ∷ rest) k = k

sizes-accepted : (c : Controller) (f : Frame) (room : ℕ) → Shaped (λ x. Unit {0}) f → Passed c f room → Sizes c → Sizes (accepted c f)
unfolding accepted heard noted
sizes-accepted c (broadcast cc time altitude spin phase) room h p k = sizes-moved (heard c cc time altitude spin phase) k
sizes-accepted c (command cc id sequence parameters) room h p k = sizes-performed (noted c cc id sequence) (decoded id parameters) k
sizes-accepted c (tick r) room h p k = sizes-ticks c r k
sizes-accepted c (sample s x) room h p k =
    sizes-sampled c s x (not-false _ p.carries) (eqb-true _ _ (not-false _ p.sized)) k
sizes-accepted c (poll cc) room h p k = sizes-polled c cc c.streams.queue k
sizes-accepted c (status cc low flags) room h p k = k
sizes-accepted c (analogue bytes) room h p k = record { readings = k.readings; analogues = h; fits = k.fits }
sizes-accepted c faulty room h p k = k

sizes-refused : (n : ℕ) (f : Frame) (c : Controller) → Sizes c → Sizes (refused n f c)
unfolding late_heard erred
sizes-refused n f c k = refused_any Sizes n f c k (λ cc. k) (λ cc m. k)

-- a call keeps them
pub sizes_step : (c : Controller) (x : Call) → Sizes c → Sizes (step c x.bytes x.room).next
unfolding step replied
sizes_step c x k = by (reply (holds c) f x.room) refl (eqb (reply (holds c) f x.room) 0) refl
  where
    f : Frame
    f = frame_of x.bytes

    by : (n : ℕ) → reply (holds c) f x.room ≡ n → (b : Bool) → eqb n 0 ≡ b
        → Sizes (cond b (outcome 0 (answer c f) (accepted c f)) (outcome n [] (refused n f c))).next
    by n r true e = sizes-accepted c f x.room (shaped (λ y. Unit {0}) x.bytes tt) (passed c f x.room (r ∙ eqb-true n 0 e)) k
    by n r false e = sizes-refused n f c k

pub sizes-runs : (xs : List Call) (c : Controller) → Sizes c → Sizes (runs c xs)
unfolding runs
sizes-runs [] c k = k
sizes-runs (x ∷ xs) c k = sizes-runs xs (step c x.bytes x.room).next (sizes_step c x k)
