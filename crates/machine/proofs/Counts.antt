-- Counts that are raised, and the marks of commands and of housekeeping: the bytes after each store hold document 01's controller
-- after it. Assumes nothing.
use mathlib.Core.Path.{◌≡◌, refl, ap, ◌∙◌}
use mathlib.Core.Bool.{Bool, true, false, cond}
use mathlib.Core.List.{List, [], ◌∷◌}
use mathlib.Core.Logic.{inl, inr}
use Prim.{Dec, yes, no}
use Prim.Native.Nat.{ℕ, ◌+◌, ◌*◌, ◌%◌, ◌≤◌, ◌<◌}
use native.Mathlib.Decide.{dec_lt}
use native.Mathlib.Omega.{arith}
use lib.Dec.{eqb}
use lib.ListN.{length, get_or}
use borrow.Author.Tests.{eqb-true, eqb-false}
use Rattle.wire.specs.Wire.{be16, bytes16, put, raised_on}
use Rattle.wire.proofs.Runs.{get_or-put_before, get_or-put_inside, get_or-put_after, be16-put_before, be16-put-after, be16-put-same, part-put-same}
use Rattle.paper.specs.Frames.{Channel, cdmu_a, cdmu_b}
use Rattle.paper.specs.Controller.{raised, raised8, raised_at, Tallies, with_packets, with_telemetry, with_commands, with_error, with_last, Controller, with_tallies, with_housed}
use Rattle.paper.specs.Acts.{noted}
use Rattle.paper.specs.Step.{late_heard, erred}
use Rattle.state.specs.Layout.{commands_at, broadcasts_at, packets_at, telemetry_at, errors_at, code_at, sequence_at, id_at, first_at, housed_at}
use Rattle.state.specs.View.{tallies_in, pieces_in, view, first_in, waiting_in}
use Rattle.state.specs.Range.{Whole}
use Rattle.lent.proofs.Same.{Same, put_same, be16-same}
use Rattle.state.proofs.Apart.{clock-apart, standing_apart, impact-apart, tallies-apart, first-apart, waiting-apart, counts-apart, opened-apart, pieces-apart}
use Rattle.machine.specs.Obeyed.{noted_on, erred_on}
use Rattle.machine.proofs.Past.{past-whole, packets-at, raised-past}
use Rattle.machine.proofs.Same.{view_tallied}

-- ---- a count that is raised: one of the seven of two bytes each

-- where the k-th of them stands
abbrev place : ℕ → ℕ
place k = commands_at + 2 * k

-- the count at a place, where the one at another may have been raised
abbrev count : List ℕ → (raised_place at : ℕ) → ℕ
count s r at = cond (eqb at r) (raised (be16 s at)) (be16 s at)

-- the bytes of the count at a place, raised
abbrev up : List ℕ → ℕ → List ℕ
up s at = bytes16 (raised (be16 s at))

-- all of them, with the marks
abbrev tallied : List ℕ → ℕ → Tallies
tallied s r =
    record {
      broadcasts = record { a = count s r (broadcasts_at cdmu_a); b = count s r (broadcasts_at cdmu_b) };
      packets = record { a = count s r (packets_at cdmu_a); b = count s r (packets_at cdmu_b) };
      telemetry = record { a = count s r (telemetry_at cdmu_a); b = count s r (telemetry_at cdmu_b) };
      commands = count s r commands_at;
      errors = get_or s errors_at 0;
      code = get_or s code_at 0;
      sequence = get_or s sequence_at 0;
      id = get_or s id_at 0;
    }

module _ (s : List ℕ) (f : Whole s) (k : ℕ) (h : k < 7) where
  fits : place k + 2 ≤ length s
  fits = omega arith

  -- the j-th count after the k-th was raised
  word : (j : ℕ) → be16 (raised_on s (place k)) (place j) ≡ count s (place k) (place j)
  unfolding raised_on
  word j = at (eqb (place j) (place k)) refl
    where
      apart : Dec (j < k) → (j ≡ k → ⊥)
          → be16 (put s (place k) (up s (place k))) (place j) ≡ be16 s (place j)
      apart (yes l) n = be16-put_before s (place k) (up s (place k)) fits (place j) (omega arith)
      apart (no l) n = be16-put-after s (place k) (up s (place k)) fits (place j) (omega arith)

      at : (b : Bool) → eqb (place j) (place k) ≡ b
          → be16 (put s (place k) (up s (place k))) (place j)
          ≡ cond b (raised (be16 s (place j))) (be16 s (place j))
      at true e =
          let same : j ≡ k = omega (arith, eqb-true (place j) (place k) e) in
          rw same (be16-put-same s (place k) (raised (be16 s (place k))) (omega arith))
      at false e = apart (dec_lt j k) (λ same. eqb-false (place j) (place k) e (ap place same))

  mark : (i : ℕ) → errors_at ≤ i → get_or (raised_on s (place k)) i 0 ≡ get_or s i 0
  unfolding raised_on
  mark i l = get_or-put_after s (place k) (up s (place k)) fits i (omega arith)

  tallies-raised : tallies_in (raised_on s (place k)) ≡ tallied s (place k)
  unfolding tallies_in
  tallies-raised i =
      record {
        broadcasts = record { a = word 1 i; b = word 2 i };
        packets = record { a = word 3 i; b = word 4 i };
        telemetry = record { a = word 5 i; b = word 6 i };
        commands = word 0 i;
        errors = mark errors_at (omega arith) i;
        code = mark code_at (omega arith) i;
        sequence = mark sequence_at (omega arith) i;
        id = mark id_at (omega arith) i;
      }

  raised-view : view (raised_on s (place k)) ≡ with_tallies (view s) (tallied s (place k))
  unfolding raised_on
  raised-view =
      view_tallied s f (place k) (up s (place k)) (omega arith) (omega arith) tallies-raised

-- ---- the four kinds of count

module _ (s : List ℕ) (f : Whole s) where
  -- "A broadcast refused with 5 raises only its channel's broadcast count."
  pub late-view : (cc : Channel) → view (raised_on s (broadcasts_at cc)) ≡ late_heard (view s) cc
  unfolding late_heard view tallies_in
  late-view cdmu_a = raised-view s f 1 (omega arith)
  late-view cdmu_b = raised-view s f 2 (omega arith)

  -- a channel's command packets
  pub packets-view : (cc : Channel) → view (raised_on s (packets_at cc))
      ≡ with_tallies (view s) (with_packets (view s).tallies (raised_at cc (view s).tallies.packets))
  unfolding view tallies_in
  packets-view cdmu_a = raised-view s f 3 (omega arith)
  packets-view cdmu_b = raised-view s f 4 (omega arith)

  -- a channel's telemetry
  pub telemetry-view : (cc : Channel) → view (raised_on s (telemetry_at cc))
      ≡ with_tallies (view s) (with_telemetry (view s).tallies (raised_at cc (view s).tallies.telemetry))
  unfolding view tallies_in
  telemetry-view cdmu_a = raised-view s f 5 (omega arith)
  telemetry-view cdmu_b = raised-view s f 6 (omega arith)

  -- commands that were accepted
  pub commands-view : view (raised_on s commands_at)
      ≡ with_tallies (view s) (with_commands (view s).tallies (raised (view s).tallies.commands))
  unfolding view tallies_in
  commands-view = raised-view s f 0 (omega arith)

-- ---- the marks of commands, and of refusals

module _ (s : List ℕ) (f : Whole s) (at : ℕ) (v : List ℕ) (low : errors_at ≤ at) (high : at + length v ≤ first_at) where
  -- a store among them
  marked_view : {e c q n : ℕ} → get_or (put s at v) errors_at 0 ≡ e → get_or (put s at v) code_at 0 ≡ c
      → get_or (put s at v) sequence_at 0 ≡ q → get_or (put s at v) id_at 0 ≡ n
      → view (put s at v)
      ≡ with_tallies (view s) (with_last (with_error (view s).tallies e c) q n)
  unfolding view tallies_in
  marked_view e c q n =
      let p : Same (put s at v) s commands_at errors_at = put_same s at v (omega arith) commands_at errors_at (inr low) in
      view_tallied s f at v high (omega arith)
      (λ i.
      record {
        broadcasts =
            record { a = be16-same p (broadcasts_at cdmu_a) (omega arith) (omega arith) i; b = be16-same p (broadcasts_at cdmu_b) (omega arith) (omega arith) i };
        packets = record { a = be16-same p (packets_at cdmu_a) (omega arith) (omega arith) i; b = be16-same p (packets_at cdmu_b) (omega arith) (omega arith) i };
        telemetry =
            record { a = be16-same p (telemetry_at cdmu_a) (omega arith) (omega arith) i; b = be16-same p (telemetry_at cdmu_b) (omega arith) (omega arith) i };
        commands = be16-same p commands_at (omega arith) (omega arith) i;
        errors = e i;
        code = c i;
        sequence = q i;
        id = n i;
      })

module _ (s : List ℕ) (f : Whole s) (cc : Channel) where
  -- the bytes with the packet count raised, and then with the command count
  abbrev once : List ℕ
  once = raised_on s (packets_at cc)

  abbrev twice : List ℕ
  twice = raised_on once commands_at

  once_whole : Whole once
  once_whole = past-whole (raised-past s (packets_at cc) (packets-at cc) f) f

  twice_whole : Whole twice
  twice_whole = past-whole (raised-past once commands_at (omega arith) once_whole) once_whole

  twice_view : view twice
      ≡ with_tallies (view s)
      (with_commands (with_packets (view s).tallies (raised_at cc (view s).tallies.packets)) (raised (view s).tallies.commands))
  twice_view =
      commands-view once once_whole
      ∙ ap (λ (c : Controller). with_tallies c (with_commands c.tallies (raised c.tallies.commands))) (packets-view s f cc)

  module _ (id sequence : ℕ) where
    abbrev low : List ℕ
    low = sequence % 256 ∷ id % 256 ∷ []

    low_fits : sequence_at + 2 ≤ length twice
    low_fits = omega (arith, twice_whole)

    pub noted-view : view (noted_on s cc id sequence) ≡ noted (view s) cc id sequence
    unfolding noted_on noted view tallies_in
    noted-view =
        marked_view twice twice_whole sequence_at low (omega arith) (omega arith)
        (get_or-put_before twice sequence_at low low_fits errors_at (omega arith))
        (get_or-put_before twice sequence_at low low_fits code_at (omega arith))
        (get_or-put_inside twice sequence_at low low_fits 0 (omega arith))
        (get_or-put_inside twice sequence_at low low_fits 1 (omega arith))
        ∙ ap
        (λ (c : Controller). with_tallies c (with_last c.tallies (sequence % 256) (id % 256))) twice_view

  module _ (n : ℕ) where
    abbrev marks : List ℕ
    marks = raised8 (get_or s errors_at 0) ∷ n ∷ []

    marks_fit : errors_at + 2 ≤ length once
    marks_fit = omega (arith, once_whole)

    pub erred-view : view (erred_on s cc n) ≡ erred (view s) cc n
    unfolding erred_on erred view tallies_in
    erred-view =
        marked_view once once_whole errors_at marks (omega arith) (omega arith)
        (get_or-put_inside once errors_at marks marks_fit 0 (omega arith))
        (get_or-put_inside once errors_at marks marks_fit 1 (omega arith))
        (get_or-put_after once errors_at marks marks_fit sequence_at (omega arith))
        (get_or-put_after once errors_at marks marks_fit id_at (omega arith))
        ∙ ap
        (λ (c : Controller). with_tallies c (with_error c.tallies (raised8 (get_or s errors_at 0)) n)) (packets-view s f cc)

-- ---- the bytes of frame 07

module _ (s : List ℕ) (f : Whole s) (x : List ℕ) (e : length x ≡ 58) where
  housed-fits : housed_at + length x ≤ length s
  housed-fits = omega arith

  pub housed-view : view (put s housed_at x) ≡ with_housed (view s) x
  unfolding view
  housed-view =
      let w : Whole s = f in
      let clock = clock-apart s housed_at x housed-fits w (omega arith) in
      let standing = standing_apart s housed_at x housed-fits w (inr (omega arith)) in
      let impact = impact-apart s housed_at x housed-fits w (inr (omega arith)) (inl (omega arith)) in
      let tallies = tallies-apart s housed_at x housed-fits w (inr (omega arith)) in
      let housed = part-put-same s housed_at x housed-fits 58 e in
      let opened = opened-apart s housed_at x housed-fits w (inl (omega arith)) in
      let counts = counts-apart s housed_at x housed-fits w (inl (omega arith)) in
      let first = first-apart s housed_at x housed-fits w (inr (omega arith)) in
      let waiting = waiting-apart s housed_at x housed-fits w (inr (omega arith)) in
      let pieces = pieces-apart s housed_at x housed-fits w (omega arith) in
      let queue = pieces _ _ ∙ ap (λ (n : ℕ). pieces_in s n (waiting_in (put s housed_at x))) first
      ∙ ap (pieces_in s (first_in s)) waiting in
      λ i.
      record {
        clock = clock i;
        standing = standing i;
        impact = impact i;
        tallies = tallies i;
        housed = housed i;
        streams = record { opened = opened i; counts = counts i; queue = queue i };
      }
