-- The controller that bytes hold, part by part: a store among the numbers in front leaves the rest of the controller.
-- Assumes nothing.
use mathlib.Core.Path.{◌≡◌, ap, ◌∙◌}
use mathlib.Core.List.{List}
use mathlib.Core.Logic.{inl, inr}
use Prim.Native.Nat.{ℕ, ◌+◌, ◌%◌, ◌≤◌}
use native.Mathlib.Omega.{arith}
use lib.ListN.{length}
use Rattle.wire.specs.Wire.{put}
use Rattle.wire.proofs.Runs.{length-put}
use Rattle.paper.specs.Clock.{Clock}
use Rattle.paper.specs.Mode.{Standing}
use Rattle.paper.specs.Impact.{Impact}
use Rattle.paper.specs.Controller.{Tallies, Controller, with_clock, with_standing, with_impact, with_tallies}
use Rattle.state.specs.Layout.{nibble_at, flag_at, first_at, waiting_at, ring_at, slots_at, state_bytes, commands_at}
use Rattle.state.specs.View.{clock_in, standing_in, impact_in, tallies_in, pieces_in, streams_in, view, capped, first_in, waiting_in}
use Rattle.state.specs.Range.{Whole}
use Rattle.lent.proofs.Same.{Same, Outside, put_same, same-within}
use Rattle.state.proofs.Apart.{clock-apart, standing_apart, impact-apart, tallies-apart, counts_same, opened-same, housed-same, pieces-same}

-- ---- the controller of bytes whose rest agrees with other bytes

-- another clock, standing, impact and tallies; the rest as it was
abbrev pub headed : Controller → Clock → Standing → Impact → Tallies → Controller
headed c clock standing impact tallies =
    record {
      clock = clock;
      standing = standing;
      impact = impact;
      tallies = tallies;
      housed = c.housed;
      streams = c.streams;
    }

module _ (x y : List ℕ) (f : Whole y) (whole : Whole x) (p : Same x y first_at ring_at) where
  queue-kept : Same x y slots_at state_bytes → pieces_in x (first_in x) (waiting_in x) ≡ pieces_in y (first_in y) (waiting_in y)
  queue-kept q =
      pieces-same x y whole f _ _ (λ k h. same-within _ _ q (omega arith) (omega arith))
      ∙ ap (λ (n : ℕ). pieces_in y (n % 48) (waiting_in x)) (p.byte first_at (omega arith) (omega arith))
      ∙ ap (λ (n : ℕ). pieces_in y (first_in y) (capped 48 n)) (p.byte waiting_at (omega arith) (omega arith))

  pub streams-kept : Same x y slots_at state_bytes → streams_in x ≡ streams_in y
  streams-kept q =
      let opened = opened-same x y whole f (same-within _ _ p (omega arith) (omega arith)) in
      let counts = counts_same x y (same-within _ _ p (omega arith) (omega arith)) in
      let queue = queue-kept q in
      λ j. record { opened = opened j; counts = counts j; queue = queue j }

  pub view_headed : Same x y slots_at state_bytes → {k : Clock} {g : Standing} {i : Impact} {n : Tallies} → clock_in x ≡ k
      → standing_in x ≡ g → impact_in x ≡ i → tallies_in x ≡ n → view x ≡ headed (view y) k g i n
  unfolding view
  view_headed q clock standing impact tallies =
      let housed = housed-same x y whole f (same-within _ _ p (omega arith) (omega arith)) in
      let streams = streams-kept q in
      λ j.
      record {
        clock = clock j;
        standing = standing j;
        impact = impact j;
        tallies = tallies j;
        housed = housed j;
        streams = streams j;
      }

-- ---- a store among the numbers in front

module _ (s : List ℕ) (f : Whole s) (at : ℕ) (v : List ℕ) (front : at + length v ≤ first_at) where
  fits : at + length v ≤ length s
  fits = omega arith

  same : (lo hi : ℕ) → Outside at v lo hi → Same (put s at v) s lo hi
  same = put_same s at v fits

  whole : Whole (put s at v)
  whole = omega (arith, length-put s at v fits)

  view-front : {k : Clock} {g : Standing} {i : Impact} {n : Tallies} → clock_in (put s at v) ≡ k → standing_in (put s at v) ≡ g
      → impact_in (put s at v) ≡ i → tallies_in (put s at v) ≡ n → view (put s at v) ≡ headed (view s) k g i n
  view-front = view_headed (put s at v) s f whole (same _ _ (inl front)) (same _ _ (inl (omega arith)))

  clock-kept : nibble_at ≤ at → clock_in (put s at v) ≡ clock_in s
  clock-kept = clock-apart s at v fits f

  standing-kept : Outside at v nibble_at flag_at → standing_in (put s at v) ≡ standing_in s
  standing-kept = standing_apart s at v fits f

  impact-kept : Outside at v flag_at commands_at → impact_in (put s at v) ≡ impact_in s
  impact-kept o = impact-apart s at v fits f o (inl (omega arith))

  tallies-kept : at + length v ≤ commands_at → tallies_in (put s at v) ≡ tallies_in s
  tallies-kept h = tallies-apart s at v fits f (inl h)

  -- a store into one group changes that group
  pub view_clocked : at + length v ≤ nibble_at → {k : Clock} → clock_in (put s at v) ≡ k → view (put s at v) ≡ with_clock (view s) k
  unfolding view
  view_clocked h e =
      view-front e (standing-kept (inl h)) (impact-kept (inl (omega arith))) (tallies-kept (omega arith))

  pub view_stood : nibble_at ≤ at → at + length v ≤ flag_at → {g : Standing} → standing_in (put s at v) ≡ g
      → view (put s at v) ≡ with_standing (view s) g
  unfolding view
  view_stood l h e = view-front (clock-kept l) e (impact-kept (inl h)) (tallies-kept (omega arith))

  pub view_impacted : flag_at ≤ at → at + length v ≤ commands_at → {i : Impact} → impact_in (put s at v) ≡ i
      → view (put s at v) ≡ with_impact (view s) i
  unfolding view
  view_impacted l h e = view-front (clock-kept (omega arith)) (standing-kept (inr l)) e (tallies-kept h)

  pub view_tallied : commands_at ≤ at → {n : Tallies} → tallies_in (put s at v) ≡ n → view (put s at v) ≡ with_tallies (view s) n
  unfolding view
  view_tallied l e = view-front (clock-kept (omega arith)) (standing-kept (inr (omega arith))) (impact-kept (inr l)) e
