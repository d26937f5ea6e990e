-- What an accepted tick does to the lent bytes is what document 01 says of the controller that they hold: m, the ring and the
-- window, impact declared, the collection, its end. `..-view` says it of a step.
-- Assumes nothing.
use mathlib.Core.Path.{◌≡◌, refl, sym, ap, ◌∙◌}
use mathlib.Core.Bool.{Bool, true, false, cond, not, ◌&&◌}
use mathlib.Core.List.{List, [], ◌∷◌, ◌++◌, append-nil, append_assoc}
use mathlib.Core.Logic.{◌⊎◌, inl, inr, ⊎_elim}
use Prim.{Dec, yes, no}
use Prim.Native.Nat.{ℕ, zero, suc, ◌+◌, ◌-◌, ◌*◌, ◌%◌, ◌≤◌, ◌<◌}
use native.Mathlib.Decide.{dec_lt}
use native.Mathlib.Numerals.{add-one}
use native.Mathlib.Omega.{arith}
use lib.Dec.{eqb, leb, ltb}
use lib.ListN.{length, drop, get_or}
use borrow.Author.Tests.{ltb-true, leb-true, leb-false, ne_eqb}
use Rattle.wire.specs.Wire.{be16, be24, bytes16, bytes24, put}
use Rattle.wire.proofs.Runs.{length-put, get_or-put_before, get_or-put_inside, be24-put_inside, be16-put-same, be24-bytes24}
use Rattle.modes.proofs.Numbers.{number-mode_of, nibble_back}
use Rattle.impact.specs.Window.{window_of, window_after}
use Rattle.packing.specs.Words.{words_of}
use Rattle.packing.proofs.Packing.{words_of-append, words_of-put_before, words_of-put-after}
use Rattle.impact.proofs.Comparisons.{window_moves}
use Rattle.paper.specs.Clock.{seconds_of, ticked, now}
use Rattle.paper.specs.Mode.{surface, mode_of, nibble}
use Rattle.paper.specs.Impact.{above, declares, rung, Stamp, Impact}
use Rattle.paper.specs.Streams.{acc_i}
use Rattle.paper.specs.Packets.{mode_byte}
use Rattle.paper.specs.Controller.{Controller, with_clock, with_impact, stamp_now, queued}
use Rattle.paper.specs.Acts.{enter, m_raised, in_proximity, last, completes, with_reading, detected, watched, ended, impact_packet, completed, watching, ticks}
use Rattle.state.specs.Layout.{m_at, nibble_at, flag_at, impact_time_at, impact_mode_at, window_at, oldest_at, further_at, commands_at, first_at, waiting_at, housed_at, ring_at, slots_at, state_bytes, time_at, altitude_at, spin_at, phase_at}
use Rattle.state.specs.View.{clock_in, standing_in, collection_of, ring_from, impact_in, view, capped, m_in, nibble_in, window_in, oldest_in, waiting_in}
use Rattle.state.specs.Range.{Whole}
use Rattle.lent.proofs.Same.{Same, same_trans, same-within, put_same, be16-same, be24-same}
use Rattle.state.proofs.Apart.{clock-same, standing-same, ring-same, impact-same, tallies-same, housed-same, waiting-apart}
use Rattle.state.proofs.Numbers.{capped-low, capped-high}
use Rattle.machine.specs.Stores.{Free}
use Rattle.machine.specs.Built.{impact_record_on}
use Rattle.machine.specs.Entered.{entered_on}
use Rattle.machine.proofs.Past.{past-whole, past_then, counted_past, taken-past, further_past, recorded_past}
use Rattle.machine.proofs.Same.{streams-kept}
use Rattle.machine.proofs.Sent.{recorded_view}
use Rattle.machine.proofs.Entries.{ring-kept, entered-view, idle-view}
use Rattle.machine.specs.Ticked.{m_raised_on, with_reading_on, declared_on, detected_on, watched_on, completed_on, ticked_on}

-- ---- lists that agree but for some bytes

-- all but the clock
clock_only : (x s : List ℕ) → Whole s → Whole x → Same x s nibble_at state_bytes → view x ≡ with_clock (view s) (clock_in x)
unfolding view
clock_only x s f whole p i =
    record {
      clock = clock_in x;
      standing = standing-same x s (same-within nibble_at flag_at p (omega arith) (omega arith)) i;
      impact =
          impact-same x s (same-within flag_at commands_at p (omega arith) (omega arith))
          (same-within ring_at slots_at p (omega arith) (omega arith)) i;
      tallies = tallies-same x s (same-within commands_at first_at p (omega arith) (omega arith)) i;
      housed = housed-same x s whole f (same-within housed_at (housed_at + 58) p (omega arith) (omega arith)) i;
      streams =
          streams-kept x s f whole (same-within first_at ring_at p (omega arith) (omega arith))
          (same-within slots_at state_bytes p (omega arith) (omega arith)) i;
    }

-- all but impact
impact_only : (x s : List ℕ) → Whole s → Whole x → Same x s time_at flag_at → Same x s commands_at ring_at → Same x s slots_at state_bytes
    → view x ≡ with_impact (view s) (impact_in x)
unfolding view
impact_only x s f whole p q r i =
    record {
      clock = clock-same x s (same-within time_at nibble_at p (omega arith) (omega arith)) i;
      standing = standing-same x s (same-within nibble_at flag_at p (omega arith) (omega arith)) i;
      impact = impact_in x;
      tallies = tallies-same x s (same-within commands_at first_at q (omega arith) (omega arith)) i;
      housed = housed-same x s whole f (same-within housed_at (housed_at + 58) q (omega arith) (omega arith)) i;
      streams = streams-kept x s f whole (same-within first_at ring_at q (omega arith) (omega arith)) r i;
    }

-- ---- m

-- one tick more, of the number that is kept and of the number that it says
ticked-capped : (m : ℕ) → capped 1023 (ticked m) ≡ ticked (capped 1023 m)
unfolding ticked capped
ticked-capped m = at (ltb m 1023) refl
  where
    at : (b : Bool) → ltb m 1023 ≡ b → capped 1023 (cond b (m + 1) 1023) ≡ cond (ltb (cond b m 1023) 1023) (cond b m 1023 + 1) 1023
    at true e = capped-low 1023 (m + 1) (omega (arith, ltb-true m 1023 e)) ∙ rw e
    at false e = refl

module _ (s : List ℕ) (f : Whole s) where
  counted_rest : Same (m_raised_on s) s nibble_at state_bytes
  unfolding m_raised_on
  counted_rest = put_same s m_at (bytes16 (ticked (be16 s m_at))) (omega arith) nibble_at state_bytes (inl (omega arith))

  counted_before : Same (m_raised_on s) s time_at m_at
  unfolding m_raised_on
  counted_before = put_same s m_at (bytes16 (ticked (be16 s m_at))) (omega arith) time_at m_at (inr (omega arith))

  counted_m : m_in (m_raised_on s) ≡ ticked (m_in s)
  unfolding m_raised_on
  counted_m = ap (capped 1023) (be16-put-same s m_at (ticked (be16 s m_at)) (omega arith)) ∙ ticked-capped (be16 s m_at)

  pub counted_whole : Whole (m_raised_on s)
  counted_whole = past-whole (counted_past s f) f

  pub counted_view : view (m_raised_on s) ≡ m_raised (view s)
  unfolding m_raised view clock_in
  counted_view =
      clock_only (m_raised_on s) s f counted_whole counted_rest
      ∙ ap (with_clock (view s))
      (λ i.
      record {
        time = be16-same counted_before time_at (omega arith) (omega arith) i;
        altitude = be16-same counted_before altitude_at (omega arith) (omega arith) i;
        spin = counted_before.byte spin_at (omega arith) (omega arith) i;
        phase = counted_before.byte phase_at (omega arith) (omega arith) i;
        m = counted_m i;
      })

-- ---- the ring

no_words : (s : List ℕ) (at : ℕ) → words_of s at 0 ≡ []
unfolding words_of
no_words s at = refl

-- from its first place on
ring-start : (s : List ℕ) (n : ℕ) → n ≡ 512 → ring_from s 0 ≡ words_of s ring_at n
unfolding ring_from
ring-start s n e = rw (no_words s ring_at, append-nil, e)

-- a reading stored at the oldest place, which is then the newest
module _ (s : List ℕ) (p r : ℕ) (h : p < 512) (b : r < 4096) (w : slots_at ≤ length s) where
  -- the words after the place are as they were
  after-place : (i : ℕ) → i ≡ ring_at + 2 * p + 2 → (n : ℕ)
      → words_of (put s (ring_at + 2 * p) (bytes16 r)) i n ≡ words_of s (ring_at + 2 * p + 2) n
  after-place i e n =
      rw e (words_of-put-after s (ring_at + 2 * p) (bytes16 r) (omega arith) (ring_at + 2 * p + 2) n (omega arith))

  -- those before it too, and at the place is the reading
  upto_place : words_of (put s (ring_at + 2 * p) (bytes16 r)) ring_at (p + 1) ≡ words_of s ring_at p ++ (r ∷ [])
  unfolding words_of
  upto_place =
      let here : be16 (put s (ring_at + 2 * p) (bytes16 r)) (ring_at + 2 * p) % 4096 ≡ r =
      omega (arith, be16-put-same s (ring_at + 2 * p) r (omega arith)) in
      words_of-append (put s (ring_at + 2 * p) (bytes16 r)) ring_at p 1
      ∙ (λ i. words_of-put_before s (ring_at + 2 * p) (bytes16 r) (omega arith) ring_at p (omega arith) i ++ (here i ∷ []))

  -- the ring before, without its oldest reading
  rest : drop 1 (ring_from s p) ≡ words_of s (ring_at + 2 * p + 2) (511 - p) ++ words_of s ring_at p
  unfolding ring_from words_of
  rest =
      let n : 512 - p ≡ suc (511 - p) = omega arith in
      rw n

  pub ring-taken : ring_from (put s (ring_at + 2 * p) (bytes16 r)) ((p + 1) % 512) ≡ rung r (ring_from s p)
  unfolding ring_from
  ring-taken = at (dec_lt p 511)
    where
      at : Dec (p < 511) → ring_from (put s (ring_at + 2 * p) (bytes16 r)) ((p + 1) % 512) ≡ rung r (ring_from s p)
      at (yes l) =
          let e : (p + 1) % 512 ≡ p + 1 = omega arith in
          let n : 512 - (p + 1) ≡ 511 - p = omega arith in
          rw (e, n, after-place (ring_at + 2 * (p + 1)) (omega arith) (511 - p), upto_place, rest, append_assoc)
      -- the ring's last place: the oldest is its first now
      at (no l) =
          let e : (p + 1) % 512 ≡ 0 = omega arith in
          let z : 511 - p ≡ 0 = omega arith in
          ap (ring_from (put s (ring_at + 2 * p) (bytes16 r))) e
          ∙ ring-start (put s (ring_at + 2 * p) (bytes16 r)) (p + 1) (omega arith)
          ∙ upto_place
          ∙ rw (rest, z, no_words s (ring_at + 2 * p + 2))

-- ---- a reading taken

-- the first two of its three stores
ringed_on : List ℕ → ℕ → List ℕ
ringed_on s r = put s (ring_at + 2 * oldest_in s) (bytes16 r)

windowed_on : List ℕ → ℕ → List ℕ
windowed_on s r = put (ringed_on s r) window_at (window_after (window_in s) (above r) ∷ [])

module _ (s : List ℕ) (r : ℕ) (f : Whole s) (b : r < 4096) where
  ringed_length : length (ringed_on s r) ≡ length s
  unfolding ringed_on
  ringed_length = length-put s (ring_at + 2 * oldest_in s) (bytes16 r) (omega arith)

  windowed_length : length (windowed_on s r) ≡ length s
  unfolding windowed_on
  windowed_length =
      length-put (ringed_on s r) window_at (window_after (window_in s) (above r) ∷ []) (omega (arith, ringed_length)) ∙ ringed_length

  -- the last two stores leave all but window and place, and all three all but those and the ring
  taken_ringed : (lo hi : ℕ) → (hi ≤ window_at) ⊎ (further_at ≤ lo) → Same (with_reading_on s r) (ringed_on s r) lo hi
  unfolding with_reading_on ringed_on windowed_on
  taken_ringed lo hi o =
      same_trans
      (put_same (windowed_on s r) oldest_at (bytes16 ((oldest_in s + 1) % 512)) (omega (arith, windowed_length)) lo hi
      (⊎_elim (λ h. inr (omega arith)) (λ h. inl (omega arith)) o))
      (put_same (ringed_on s r) window_at (window_after (window_in s) (above r) ∷ []) (omega (arith, ringed_length)) lo hi
      (⊎_elim (λ h. inr (omega arith)) (λ h. inl (omega arith)) o))

  taken-same : (lo hi : ℕ) → (hi ≤ window_at) ⊎ (further_at ≤ lo) → (hi ≤ ring_at) ⊎ (slots_at ≤ lo) → Same (with_reading_on s r) s lo hi
  unfolding ringed_on
  taken-same lo hi o w =
      same_trans (taken_ringed lo hi o)
      (put_same s (ring_at + 2 * oldest_in s) (bytes16 r) (omega arith) lo hi
      (⊎_elim (λ h. inr (omega arith)) (λ h. inl (omega arith)) w))

  taken-byte : get_or (with_reading_on s r) window_at 0 ≡ window_after (window_in s) (above r)
  unfolding with_reading_on ringed_on windowed_on
  taken-byte =
      get_or-put_before (windowed_on s r) oldest_at (bytes16 ((oldest_in s + 1) % 512)) (omega (arith, windowed_length)) window_at
      (omega arith)
      ∙ get_or-put_inside (ringed_on s r) window_at (window_after (window_in s) (above r) ∷ []) (omega (arith, ringed_length)) 0 (omega arith)

  taken-window : window_in (with_reading_on s r) ≡ window_after (window_in s) (above r)
  taken-window = omega (arith, taken-byte)

  taken-place : oldest_in (with_reading_on s r) ≡ (oldest_in s + 1) % 512
  unfolding with_reading_on ringed_on windowed_on
  taken-place = omega (arith, be16-put-same (windowed_on s r) oldest_at ((oldest_in s + 1) % 512) (omega (arith, windowed_length)))

  taken-ring : ring_from (with_reading_on s r) (oldest_in (with_reading_on s r)) ≡ rung r (ring_from s (oldest_in s))
  unfolding ringed_on
  taken-ring =
      ring-same (with_reading_on s r) (ringed_on s r) (oldest_in (with_reading_on s r)) (omega (arith, taken-place))
      (taken_ringed ring_at slots_at (inr (omega arith)))
      ∙ ap (ring_from (ringed_on s r)) taken-place
      ∙ ring-taken s (oldest_in s) r (omega arith) b (omega arith)

  taken-impact : impact_in (with_reading_on s r) ≡ with_reading (impact_in s) r
  unfolding impact_in with_reading
  taken-impact =
      let p = taken-same flag_at window_at (inl (omega arith)) (inl (omega arith)) in
      let q = taken-same further_at commands_at (inr (omega arith)) (inl (omega arith)) in
      let window = ap window_of taken-window ∙ window_moves (window_in s) (above r) in
      λ i.
      record {
        flag = eqb (p.byte flag_at (omega arith) (omega arith) i) 1;
        stamp =
            record {
              time = be24-same p impact_time_at (omega arith) (omega arith) i;
              mode = p.byte impact_mode_at (omega arith) (omega arith) i;
            };
        window = window i;
        ring = taken-ring i;
        collection = collection_of (capped 448 (be16-same q further_at (omega arith) (omega arith) i));
      }

  pub taken-whole : Whole (with_reading_on s r)
  taken-whole = past-whole (taken-past s r f) f

  pub taken-view : view (with_reading_on s r) ≡ with_impact (view s) (with_reading (view s).impact r)
  unfolding view
  taken-view =
      impact_only (with_reading_on s r) s f taken-whole (taken-same time_at flag_at (inl (omega arith)) (inl (omega arith)))
      (taken-same commands_at ring_at (inr (omega arith)) (inl (omega arith)))
      (taken-same slots_at state_bytes (inr (omega arith)) (inr (omega arith)))
      ∙ ap (with_impact (view s)) taken-impact

-- ---- the collection

-- the collection stored, the rest as it was
abbrev pub collected : Impact → ℕ → Impact
collected i n =
    record { flag = i.flag; stamp = i.stamp; window = i.window; ring = i.ring; collection = collection_of (capped 448 n) }

module _ (s : List ℕ) (n : ℕ) (f : Whole s) where
  further_same : (lo hi : ℕ) → (hi ≤ further_at) ⊎ (commands_at ≤ lo) → Same (put s further_at (bytes16 n)) s lo hi
  further_same lo hi o =
      put_same s further_at (bytes16 n) (omega arith) lo hi (⊎_elim (λ h. inr (omega arith)) (λ h. inl (omega arith)) o)

  further_impact : impact_in (put s further_at (bytes16 n)) ≡ collected (impact_in s) n
  unfolding impact_in
  further_impact =
      let x : List ℕ = put s further_at (bytes16 n) in
      let p = further_same flag_at further_at (inl (omega arith)) in
      let ring = ring-kept x s (same-within oldest_at further_at p (omega arith) (omega arith)) (further_same ring_at slots_at (inr (omega arith))) in
      let further = be16-put-same s further_at n (omega arith) in
      λ i.
      record {
        flag = eqb (p.byte flag_at (omega arith) (omega arith) i) 1;
        stamp =
            record {
              time = be24-same p impact_time_at (omega arith) (omega arith) i;
              mode = p.byte impact_mode_at (omega arith) (omega arith) i;
            };
        window = window_of (p.byte window_at (omega arith) (omega arith) i % 32);
        ring = ring i;
        collection = collection_of (capped 448 (further i));
      }

  further_view : view (put s further_at (bytes16 n)) ≡ with_impact (view s) (collected (view s).impact n)
  unfolding view
  further_view =
      impact_only (put s further_at (bytes16 n)) s f (past-whole (further_past s n f) f)
      (further_same time_at flag_at (inl (omega arith))) (further_same commands_at ring_at (inr (omega arith)))
      (further_same slots_at state_bytes (inr (omega arith)))
      ∙ ap (with_impact (view s)) further_impact

-- ---- impact declared

-- SSP time and mode of the impact tick stored, and the flag
stamped_on : List ℕ → List ℕ
stamped_on s = put s flag_at (1 ∷ (bytes24 (now (clock_in s)) ++ (mode_byte acc_i (nibble_in s) ∷ [])))

abbrev pub stamped : Impact → Stamp → Impact
stamped i st = record { flag = true; stamp = st; window = i.window; ring = i.ring; collection = i.collection }

module _ (s : List ℕ) (f : Whole s) where
  stamped_length : length (stamped_on s) ≡ length s
  unfolding stamped_on
  stamped_length = length-put s flag_at (1 ∷ (bytes24 (now (clock_in s)) ++ (mode_byte acc_i (nibble_in s) ∷ []))) (omega arith)

  stamped_same : (lo hi : ℕ) → (hi ≤ flag_at) ⊎ (window_at ≤ lo) → Same (stamped_on s) s lo hi
  unfolding stamped_on
  stamped_same lo hi o =
      put_same s flag_at (1 ∷ (bytes24 (now (clock_in s)) ++ (mode_byte acc_i (nibble_in s) ∷ []))) (omega arith) lo hi
      (⊎_elim (λ h. inr (omega arith)) (λ h. inl (omega arith)) o)

  stamped_flag : get_or (stamped_on s) flag_at 0 ≡ 1
  unfolding stamped_on
  stamped_flag =
      get_or-put_inside s flag_at (1 ∷ (bytes24 (now (clock_in s)) ++ (mode_byte acc_i (nibble_in s) ∷ []))) (omega arith) 0 (omega arith)

  stamped_time : be24 (stamped_on s) impact_time_at ≡ now (clock_in s)
  unfolding stamped_on
  stamped_time =
      be24-put_inside s flag_at (1 ∷ (bytes24 (now (clock_in s)) ++ (mode_byte acc_i (nibble_in s) ∷ []))) (omega arith) 1 (omega arith)
      ∙ be24-bytes24 (now (clock_in s))

  stamped_mode : get_or (stamped_on s) impact_mode_at 0 ≡ mode_byte acc_i (nibble (standing_in s).mode (standing_in s).locked)
  unfolding stamped_on standing_in
  stamped_mode =
      get_or-put_inside s flag_at (1 ∷ (bytes24 (now (clock_in s)) ++ (mode_byte acc_i (nibble_in s) ∷ []))) (omega arith) 4 (omega arith)
      ∙ ap (mode_byte acc_i) (sym (nibble_back (nibble_in s) (omega arith)))

  stamped_impact : impact_in (stamped_on s) ≡ stamped (impact_in s) (stamp_now (view s) acc_i)
  unfolding impact_in view
  stamped_impact =
      let p = stamped_same window_at commands_at (inr (omega arith)) in
      let ring = ring-kept (stamped_on s) s (same-within oldest_at further_at p (omega arith) (omega arith)) (stamped_same ring_at slots_at (inr (omega arith))) in
      λ i.
      record {
        flag = eqb (stamped_flag i) 1;
        stamp = record { time = stamped_time i; mode = stamped_mode i };
        window = window_of (p.byte window_at (omega arith) (omega arith) i % 32);
        ring = ring i;
        collection = collection_of (capped 448 (be16-same p further_at (omega arith) (omega arith) i));
      }

  stamped_view : view (stamped_on s) ≡ with_impact (view s) (stamped (view s).impact (stamp_now (view s) acc_i))
  unfolding view
  stamped_view =
      impact_only (stamped_on s) s f (omega (arith, stamped_length)) (stamped_same time_at flag_at (inl (omega arith)))
      (stamped_same commands_at ring_at (inr (omega arith))) (stamped_same slots_at state_bytes (inr (omega arith)))
      ∙ ap (with_impact (view s)) stamped_impact

  pub declared_view : view (declared_on s) ≡ with_impact (view s) (collected (stamped (view s).impact (stamp_now (view s) acc_i)) 1)
  unfolding declared_on stamped_on
  declared_view =
      further_view (stamped_on s) 1 (omega (arith, stamped_length))
      ∙ ap (λ (c : Controller). with_impact c (collected c.impact 1)) stamped_view

module _ (s : List ℕ) (f : Whole s) where
  pub detected-view : view (detected_on s) ≡ with_impact (view s) (detected (view s).impact (stamp_now (view s) acc_i))
  unfolding detected_on detected view impact_in capped
  detected-view = at (not (view s).impact.flag && declares (view s).impact.window)
    where
      at : (b : Bool)
          → view (cond b (declared_on s) s)
          ≡ with_impact (view s)
          (cond b (collected (stamped (view s).impact (stamp_now (view s) acc_i)) 1) (view s).impact)
      at true = declared_view s f
      at false = refl

  -- by the number that says what is collected: one more than the further ticks, or 0
  pub watched-view : be16 s further_at < 448 → view (watched_on s) ≡ watching (view s)
  unfolding watched_on watching watched view impact_in
  watched-view h =
      at (be16 s further_at) h
      ∙ ap (λ (n : ℕ). with_impact (view s) (watched (collection_of n) (view s).impact (stamp_now (view s) acc_i)))
      (sym (capped-low 448 (be16 s further_at) (omega arith)))
    where
      at : (n : ℕ) → n < 448
          → view (cond (eqb n 0) (detected_on s) (put s further_at (bytes16 (n + 1))))
          ≡ with_impact (view s) (watched (collection_of n) (view s).impact (stamp_now (view s) acc_i))
      at zero l = detected-view
      at (suc k) l =
          ap (λ (b : Bool). view (cond b (detected_on s) (put s further_at (bytes16 (suc k + 1))))) (ne_eqb (suc k) 0 (λ e. omega arith))
          ∙ further_view s (suc k + 1) f
          ∙ ap (λ (m : ℕ). with_impact (view s) (record { flag = (view s).impact.flag; stamp = (view s).impact.stamp; window = (view s).impact.window; ring = (view s).impact.ring; collection = collection_of m }))
          (capped-low 448 (suc k + 1) (omega arith) ∙ add-one (suc k))

-- ---- the record complete, and a whole tick

-- "The 448th further tick": the number kept is one more than the further ticks before it
last_of : (n : ℕ) → last (collection_of (capped 448 n)) ≡ leb 448 n
unfolding last
last_of n = at (leb 448 n) refl
  where
    upto : (k : ℕ) → k < 448 → last (collection_of k) ≡ false
    upto zero h = refl
    upto (suc k) h = ne_eqb k 447 (λ e. omega arith)

    at : (b : Bool) → leb 448 n ≡ b → last (collection_of (capped 448 n)) ≡ b
    at true e = ap (λ (k : ℕ). last (collection_of k)) (capped-high 448 n (leb-true 448 n e))
    at false e =
        let l : n < 448 = leb-false 448 n e in
        ap (λ (k : ℕ). last (collection_of k)) (capped-low 448 n (omega arith)) ∙ upto n l

-- the tests of the bytes are those of the controller
near_view : (s : List ℕ) → in_proximity (view s) ≡ eqb (nibble_in s % 8) 4
unfolding view standing_in
near_view s = rw (number-mode_of (nibble_in s % 8) (omega arith))

pub completes-view : (s : List ℕ) → completes (view s) ≡ (eqb (nibble_in s % 8) 4 && leb 448 (be16 s further_at))
unfolding completes view impact_in standing_in
completes-view s = λ i. near_view s i && last_of (be16 s further_at) i

-- one of two, by a test
by_test : (b : Bool) (x y : List ℕ) {c d : Controller} → (b ≡ true → view x ≡ c) → (b ≡ false → view y ≡ d)
    → view (cond b x y) ≡ cond b c d
by_test true x y p q = p refl
by_test false x y p q = q refl

-- a second test that counts only where the first is true
under : {A : Type 0} (a b : Bool) (x y z : A) → cond a (cond b x y) z ≡ cond a (cond (a && b) x y) z
under true b x y z = refl
under false b x y z = refl

-- a reading counted and taken
module _ (s : List ℕ) (r : ℕ) (f : Whole s) (b : r < 4096) where
  read_view : view (with_reading_on (m_raised_on s) r) ≡ with_impact (m_raised (view s)) (with_reading (view s).impact r)
  unfolding m_raised
  read_view =
      taken-view (m_raised_on s) r (counted_whole s f) b
      ∙ ap (λ (c : Controller). with_impact c (with_reading c.impact r)) (counted_view s f)

  pub read_whole : Whole (with_reading_on (m_raised_on s) r)
  read_whole = taken-whole (m_raised_on s) r (counted_whole s f) b

  pub read_same : (lo hi : ℕ) → nibble_at ≤ lo → hi ≤ ring_at → (hi ≤ window_at) ⊎ (further_at ≤ lo) → Same (with_reading_on (m_raised_on s) r) s lo hi
  read_same lo hi l h o =
      same_trans (taken-same (m_raised_on s) r (counted_whole s f) b lo hi o (inl h))
      (same-within lo hi (counted_rest s f) l (omega arith))

module _ (s : List ℕ) (f : Whole s) (room : Free s acc_i) where
  -- the record queued, the collection over
  done-view : view (impact_record_on (put s further_at (bytes16 0)))
      ≡ queued (with_impact (view s) (ended (view s).impact)) acc_i (impact_packet (view s).impact)
  unfolding impact_packet view
  done-view =
      let y : List ℕ = put s further_at (bytes16 0) in
      let waits : waiting_in y ≡ waiting_in s = waiting-apart s further_at (bytes16 0) (omega arith) f (inl (omega arith)) in
      recorded_view y (past-whole (further_past s 0 f) f) (omega (arith, waits))
      ∙ ap (λ (c : Controller). queued c acc_i (impact_packet c.impact)) (idle-view s f)

  pub completed-view : view (completed_on s) ≡ completed (view s)
  unfolding completed_on completed view standing_in impact_in mode_of
  completed-view =
      let y : List ℕ = impact_record_on (put s further_at (bytes16 0)) in
      let whole : Whole y = past-whole (past_then f (further_past s 0 f) (recorded_past _)) f in
      let seconds : ℕ = seconds_of (be24 s impact_time_at) in
      by_test (leb 8 (nibble_in s)) y (entered_on y 5 seconds) (λ l. done-view)
      (λ l. entered-view y whole 5 seconds (omega arith) ∙ ap (λ (c : Controller). enter c surface false seconds) done-view)

module _ (s : List ℕ) (r : ℕ) (f : Whole s) (b : r < 4096) (room : completes (view s) ≡ true → Free s acc_i) where
  -- in mode 4
  near_ticked : eqb (nibble_in s % 8) 4 ≡ true
      → view (cond (leb 448 (be16 s further_at)) (completed_on (with_reading_on (m_raised_on s) r)) (watched_on (with_reading_on (m_raised_on s) r)))
      ≡ cond (leb 448 (be16 s further_at)) (completed (with_impact (m_raised (view s)) (with_reading (view s).impact r)))
      (watching (with_impact (m_raised (view s)) (with_reading (view s).impact r)))
  near_ticked near =
      let x : List ℕ = with_reading_on (m_raised_on s) r in
      let whole : Whole x = read_whole s r f b in
      let e = read_view s r f b in
      let q = read_same s r f b further_at housed_at (omega arith) (omega arith) (inr (omega arith)) in
      let waits : waiting_in x ≡ waiting_in s = ap (capped 48) (q.byte waiting_at (omega arith) (omega arith)) in
      by_test (leb 448 (be16 s further_at)) (completed_on x) (watched_on x)
      (λ t.
      let free = room (completes-view s ∙ rw (near, t)) in
      completed-view x whole (omega (arith, free, waits)) ∙ ap completed e)
      (λ t.
      let less : be16 x further_at < 448 =
      omega (arith, be16-same q further_at (omega arith) (omega arith), leb-false 448 (be16 s further_at) t) in
      watched-view x whole less ∙ ap watching e)

  pub ticked-view : view (ticked_on s r) ≡ ticks (view s) r
  unfolding ticked_on ticks
  ticked-view =
      let x : List ℕ = with_reading_on (m_raised_on s) r in
      let both =
      by_test (eqb (nibble_in s % 8) 4) (cond (leb 448 (be16 s further_at)) (completed_on x) (watched_on x)) (m_raised_on s)
      near_ticked (λ t. counted_view s f) in
      let e : Controller = with_impact (m_raised (view s)) (with_reading (view s).impact r) in
      rw (near_view s, completes-view s)
      (both
      ∙ under (eqb (nibble_in s % 8) 4) (leb 448 (be16 s further_at)) (completed e) (watching e) (m_raised (view s)))
