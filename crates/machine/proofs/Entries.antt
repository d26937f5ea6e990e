-- Entries to a mode: the bytes after one hold document 01's controller after it.
-- Assumes nothing.
use mathlib.Core.Path.{◌≡◌, refl, sym, ap, ◌∙◌}
use mathlib.Core.Bool.{Bool, true, false, cond}
use mathlib.Core.List.{List, [], ◌∷◌}
use mathlib.Core.Logic.{inl, inr}
use Prim.Native.Nat.{ℕ, zero, suc, ◌+◌, ◌-◌, ◌*◌, ◌%◌, ◌≤◌, ◌<◌}
use native.Mathlib.Nat.{add-zero, add_assoc}
use native.Mathlib.Omega.{arith}
use lib.Dec.{eqb, leb}
use lib.ListN.{length, get_or, replicate, replicate-append-replicate}
use Rattle.wire.specs.Wire.{be16, bytes16, put}
use Rattle.wire.proofs.Runs.{length-put, get_or-put_before, get_or-put_inside, be16-put_inside, be24-put_inside, be16-put-same, be16-bytes16, be24-bytes24}
use Rattle.impact.specs.Window.{window_of}
use Rattle.packing.specs.Words.{words_of}
use Rattle.modes.proofs.Numbers.{number-mode_of, nibble_back}
use Rattle.paper.specs.Clock.{seconds, now}
use Rattle.paper.specs.Mode.{mode_of, number, same, proximity, Standing, entered}
use Rattle.paper.specs.Impact.{Impact, no_comparison, no_reading}
use Rattle.paper.specs.Controller.{Controller, with_standing, with_impact}
use Rattle.paper.specs.Acts.{emptied, enter, ended, commanded}
use Rattle.state.specs.Layout.{time_at, nibble_at, flag_at, impact_time_at, impact_mode_at, window_at, oldest_at, further_at, ring_at, slots_at, state_bytes}
use Rattle.state.specs.View.{clock_in, standing_in, collection_of, ring_from, impact_in, tallies_in, view, capped, nibble_in, oldest_in}
use Rattle.state.specs.Range.{Whole}
use Rattle.lent.proofs.Fitting.{get_or-zeros}
use Rattle.lent.proofs.Same.{Same, Outside, same_trans, put_same, same-within, be16-same, be24-same}
use Rattle.state.proofs.Apart.{clock-same, standing-same, tallies-same, ring-same}
use Rattle.machine.specs.Entered.{no_ring, emptied_on, entry_run, entered_on}
use Rattle.machine.specs.Obeyed.{commanded_on}
use Rattle.machine.proofs.Past.{past-whole, length-no_ring, further_past}
use Rattle.machine.proofs.Same.{headed, view_headed, view_stood, view_impacted}

-- ---- zeros

pub words_of_zeros : (x : List ℕ) (at n : ℕ) → ((j : ℕ) → j < 2 * n → get_or x (at + j) 0 ≡ 0) → words_of x at n ≡ replicate n 0
unfolding words_of
words_of_zeros x at zero z = refl
words_of_zeros x at (suc n) z =
    let word : be16 x at ≡ 0 = omega (arith, rw add-zero at (z 0 (omega arith)), z 1 (omega arith)) in
    let rest : words_of x (at + 2) n ≡ replicate n 0 =
    words_of_zeros x (at + 2) n (λ j h. rw (add_assoc at 2 j) (z (2 + j) (omega arith))) in
    rw (word, rest)

-- a ring of zeros has no reading, wherever its oldest place is
pub ring_zeros : (x : List ℕ) (place : ℕ) → place ≤ 512 → ((j : ℕ) → j < 1024 → get_or x (ring_at + j) 0 ≡ 0)
    → ring_from x place ≡ no_reading
unfolding ring_from
ring_zeros x place h z =
    let newer : words_of x (ring_at + 2 * place) (512 - place) ≡ replicate (512 - place) 0 =
    words_of_zeros x (ring_at + 2 * place) (512 - place)
    (λ j b. rw (add_assoc ring_at (2 * place) j) (z (2 * place + j) (omega arith))) in
    let older : words_of x ring_at place ≡ replicate place 0 = words_of_zeros x ring_at place (λ j b. z j (omega arith)) in
    let all : 512 - place + place ≡ 512 = omega arith in
    rw (newer, older) (replicate-append-replicate (512 - place) place 0) ∙ ap (λ (n : ℕ). replicate n 0) all

-- the readings, where ring and oldest place are as they were
pub ring-kept : (x y : List ℕ) → Same x y oldest_at further_at → Same x y ring_at slots_at
    → ring_from x (oldest_in x) ≡ ring_from y (oldest_in y)
ring-kept x y p r =
    ring-same x y (oldest_in x) (omega arith) r
    ∙ ap (λ (n : ℕ). ring_from y (n % 512)) (be16-same p oldest_at (omega arith) (omega arith))

-- ---- the collection over

module _ (s : List ℕ) (f : Whole s) where
  pub idle-view : view (put s further_at (bytes16 0)) ≡ with_impact (view s) (ended (view s).impact)
  unfolding view impact_in capped
  idle-view =
      let x : List ℕ = put s further_at (bytes16 0) in
      let fits : further_at + 2 ≤ length s = omega arith in
      let p : Same x s flag_at further_at = put_same s further_at (bytes16 0) fits _ _ (inr (omega arith)) in
      let r : Same x s ring_at slots_at = put_same s further_at (bytes16 0) fits _ _ (inl (omega arith)) in
      let ring = ring-kept x s (same-within _ _ p (omega arith) (omega arith)) r in
      view_impacted s f further_at (bytes16 0) (omega arith) (omega arith) (omega arith)
      (λ i.
      record {
        flag = eqb (p.byte flag_at (omega arith) (omega arith) i) 1;
        stamp =
            record {
              time = be24-same p impact_time_at (omega arith) (omega arith) i;
              mode = p.byte impact_mode_at (omega arith) (omega arith) i;
            };
        window = window_of (p.byte window_at (omega arith) (omega arith) i % 32);
        ring = ring i;
        collection = collection_of (capped 448 (be16-put-same s further_at 0 fits i));
      })

-- ---- "Entering mode 4 empties window and ring and clears the impact flag."

no_ring_zero : (i : ℕ) → get_or no_ring i 0 ≡ 0
unfolding no_ring
no_ring_zero = get_or-zeros 1024

-- the flag cleared, then the window emptied
abbrev cleared : List ℕ → List ℕ
cleared s = put (put s flag_at (0 ∷ [])) window_at (0 ∷ [])

module _ (s : List ℕ) (whole : state_bytes ≤ length s) where
  fits-flag : flag_at + 1 ≤ length s
  fits-flag = omega arith

  fits-window : window_at + 1 ≤ length (put s flag_at (0 ∷ []))
  fits-window = omega (arith, length-put s flag_at (0 ∷ []) fits-flag)

  fits-ring : ring_at + length no_ring ≤ length (cleared s)
  fits-ring =
      omega (
        arith,
        length-no_ring,
        length-put s flag_at (0 ∷ []) fits-flag,
        length-put (put s flag_at (0 ∷ [])) window_at (0 ∷ []) fits-window,
      )

  pub emptied-length : length (emptied_on s) ≡ length s
  unfolding emptied_on
  emptied-length =
      length-put (cleared s) ring_at no_ring fits-ring
      ∙ length-put (put s flag_at (0 ∷ [])) window_at (0 ∷ []) fits-window
      ∙ length-put s flag_at (0 ∷ []) fits-flag

  emptied-same : (lo hi : ℕ) → Outside flag_at (0 ∷ []) lo hi → Outside window_at (0 ∷ []) lo hi → Outside ring_at no_ring lo hi
      → Same (emptied_on s) s lo hi
  unfolding emptied_on
  emptied-same lo hi a b c =
      same_trans (put_same (cleared s) ring_at no_ring fits-ring lo hi c)
      (same_trans (put_same (put s flag_at (0 ∷ [])) window_at (0 ∷ []) fits-window lo hi b)
      (put_same s flag_at (0 ∷ []) fits-flag lo hi a))

  flag_zero : get_or (emptied_on s) flag_at 0 ≡ 0
  unfolding emptied_on
  flag_zero =
      get_or-put_before (cleared s) ring_at no_ring fits-ring flag_at (omega arith)
      ∙ get_or-put_before (put s flag_at (0 ∷ [])) window_at (0 ∷ []) fits-window flag_at (omega arith)
      ∙ get_or-put_inside s flag_at (0 ∷ []) fits-flag 0 (omega arith)

  window_zero : get_or (emptied_on s) window_at 0 ≡ 0
  unfolding emptied_on
  window_zero =
      get_or-put_before (cleared s) ring_at no_ring fits-ring window_at (omega arith)
      ∙ get_or-put_inside (put s flag_at (0 ∷ [])) window_at (0 ∷ []) fits-window 0 (omega arith)

  ring_zero : (j : ℕ) → j < 1024 → get_or (emptied_on s) (ring_at + j) 0 ≡ 0
  unfolding emptied_on
  ring_zero j h =
      get_or-put_inside (cleared s) ring_at no_ring fits-ring j (omega (arith, length-no_ring)) ∙ no_ring_zero j

  -- what stands between the stores
  before : Same (emptied_on s) s 0 flag_at
  before = emptied-same 0 flag_at (inr (omega arith)) (inr (omega arith)) (inr (omega arith))

  stamp : Same (emptied_on s) s impact_time_at window_at
  stamp = emptied-same impact_time_at window_at (inl (omega arith)) (inr (omega arith)) (inr (omega arith))

  after : Same (emptied_on s) s oldest_at ring_at
  after = emptied-same oldest_at ring_at (inl (omega arith)) (inl (omega arith)) (inr (omega arith))

  slots : Same (emptied_on s) s slots_at state_bytes
  slots =
      emptied-same slots_at state_bytes (inl (omega arith)) (inl (omega arith)) (inl (omega (arith, length-no_ring)))

-- the paper's impact after it
abbrev none : Impact → Impact
none i = record { flag = false; stamp = i.stamp; window = no_comparison; ring = no_reading; collection = i.collection }

-- of bytes that agree from the oldest place on with others
emptied-view : (s y : List ℕ) → Whole y → Whole s → Same s y oldest_at ring_at → Same s y slots_at state_bytes
    → view (emptied_on s) ≡ headed (view y) (clock_in s) (standing_in s) (none (impact_in s)) (tallies_in s)
unfolding impact_in
emptied-view s y f w p q =
    let x : List ℕ = emptied_on s in
    let rest : Same x y oldest_at ring_at = same_trans (after s w) p in
    let ring : ring_from x (oldest_in x) ≡ no_reading = ring_zeros x (oldest_in x) (omega arith) (ring_zero s w) in
    view_headed x y f (omega (arith, emptied-length s w)) (same-within _ _ rest (omega arith) (omega arith))
    (same_trans (slots s w) q) (clock-same x s (same-within _ _ (before s w) (omega arith) (omega arith)))
    (standing-same x s (same-within _ _ (before s w) (omega arith) (omega arith)))
    (λ i.
    record {
      flag = eqb (flag_zero s w i) 1;
      stamp =
          record {
            time = be24-same (stamp s w) impact_time_at (omega arith) (omega arith) i;
            mode = (stamp s w).byte impact_mode_at (omega arith) (omega arith) i;
          };
      window = window_of (window_zero s w i % 32);
      ring = ring i;
      collection = collection_of (capped 448 (be16-same (after s w) further_at (omega arith) (omega arith) i));
    })
    (tallies-same x s (same-within _ _ (after s w) (omega arith) (omega arith)))

-- ---- an entry

-- of the modes below 8, the fourth is proximity
same_four : (n : ℕ) → n < 8 → same (mode_of n) proximity ≡ eqb n 4
unfolding number
same_four n h = ap (λ (k : ℕ). eqb k 4) (number-mode_of n h)

module _ (s : List ℕ) (f : Whole s) (nibble reference : ℕ) (small : nibble < 16) where
  -- the run that is stored has nine bytes
  fits_run : nibble_at + 9 ≤ length s
  fits_run = omega arith

  entry-standing : standing_in (put s nibble_at (entry_run s nibble reference))
      ≡ entered (standing_in s) (mode_of (nibble % 8)) (leb 8 nibble) (now (clock_in s)) (clock_in s).altitude reference
  unfolding standing_in entered clock_in
  entry-standing =
      let v : List ℕ = entry_run s nibble reference in
      let head : nibble_in (put s nibble_at v) ≡ nibble = omega (arith, get_or-put_inside s nibble_at v fits_run 0 (omega arith)) in
      let time = be24-put_inside s nibble_at v fits_run 1 (omega arith) ∙ be24-bytes24 (now (clock_in s)) in
      let old = get_or-put_inside s nibble_at v fits_run 4 (omega arith) ∙ sym (nibble_back (nibble_in s) (omega arith)) in
      let altitude = be16-put_inside s nibble_at v fits_run 5 (omega arith) in
      let after = be16-put_inside s nibble_at v fits_run 7 (omega arith) ∙ be16-bytes16 reference in
      λ i.
      record {
        mode = mode_of (head i % 8);
        locked = leb 8 (head i);
        entry = record { time = time i; altitude = altitude i; old = old i };
        reference = after i;
      }

  -- the standing after an entry
  abbrev stands : Standing
  stands =
      entered (view s).standing (mode_of (nibble % 8)) (leb 8 nibble) (now (view s).clock) (view s).clock.altitude reference

  entry-view : view (put s nibble_at (entry_run s nibble reference)) ≡ with_standing (view s) stands
  unfolding view
  entry-view =
      view_stood s f nibble_at (entry_run s nibble reference) (omega arith) (omega arith) (omega arith) entry-standing

  -- the bytes with the run
  abbrev run : List ℕ
  run = put s nibble_at (entry_run s nibble reference)

  pub entered-view : view (entered_on s nibble reference) ≡ enter (view s) (mode_of (nibble % 8)) (leb 8 nibble) reference
  unfolding entered_on enter emptied view
  entered-view = rw (same_four (nibble % 8) (omega arith)) (at (eqb (nibble % 8) 4))
    where
      at : (b : Bool) → view (cond b (emptied_on run) run)
          ≡ with_impact (with_standing (view s) stands) (cond b (none (view s).impact) (view s).impact)
      at true =
          let v : List ℕ = entry_run s nibble reference in
          emptied-view run s f (omega (arith, length-put s nibble_at v fits_run))
          (put_same s nibble_at v fits_run _ _ (inl (omega arith)))
          (put_same s nibble_at v fits_run _ _ (inl (omega arith)))
          ∙ ap (λ (c : Controller). headed (view s) c.clock c.standing (none c.impact) c.tallies) entry-view
      at false = entry-view

-- ---- "0032 set mode": an entry by command

pub commanded-view : (s : List ℕ) → Whole s → (value : ℕ) → value < 16 → view (commanded_on s value) ≡ commanded (view s) value
unfolding commanded_on commanded view clock_in
commanded-view s w value small =
    entered-view (put s further_at (bytes16 0)) (past-whole (further_past s 0 w) w) value (seconds (be16 s time_at)) small
    ∙ ap (λ (c : Controller). enter c (mode_of (value % 8)) (leb 8 value) (seconds (be16 s time_at))) (idle-view s w)
