-- The reply to a command by what it decodes to and what stands in the lent bytes.
-- Assumes nothing.
use mathlib.Core.Path.{◌≡◌, refl, sym, ap, ◌∙◌, subst}
use mathlib.Core.Bool.{Bool, true, false, cond, ◌&&◌, ◌||◌}
use mathlib.Core.List.{List}
use Prim.Native.Nat.{ℕ}
use borrow.Author.Tests.{eqb-true, eqb-false, ne_eqb}
use lib.Dec.{eqb, ltb}
use lib.ListN.{length}
use Rattle.wire.specs.Wire.{be16}
use Rattle.paper.specs.Frames.{Channel, Frame, command}
use Rattle.paper.specs.Commands.{Request, clear, housekeeping, set_mode, Decoded, request, refusal, outside, decoded}
use Rattle.paper.specs.Streams.{hk}
use Rattle.paper.specs.Step.{holds, crowded, queues, is_error, reply}
use Rattle.state.specs.View.{waiting_in, view}
use Rattle.lent.specs.Told.{told}
use Rattle.paper.specs.Controller.{Controller}
use Rattle.paper.specs.Acts.{noted}
use Rattle.state.specs.Range.{Whole}
use Rattle.machine.specs.Obeyed.{noted_on, erred_on, obeyed_on, performed_on}
use Rattle.machine.specs.Called.{acted_on, refused_on, left_on, told_on}
use Rattle.machine.proofs.Queue.{queue-length}
use Rattle.machine.proofs.Counts.{noted-view}

-- a refusal is one of 2, 3 and 4
abbrev Says : Decoded → Type 0
Says (request q) = Unit {0}
Says (refusal n) = (eqb n 2 || (eqb n 3 || eqb n 4)) ≡ true

pick : (b : Bool) (x y : Decoded) → Says x → Says y → Says (cond b x y)
pick true x y p q = p
pick false x y p q = q

says : (id : ℕ) (parameters : List ℕ) → Says (decoded id parameters)
unfolding decoded
says id parameters =
    pick (eqb id 0x0013) _ _
    (pick (eqb (length parameters) 2) _ (refusal 3)
    (pick (outside (be16 parameters 0)) (refusal 4) (request (clear (be16 parameters 0))) refl tt) refl)
    (pick (eqb id 0x0016) _ _ (pick (eqb (length parameters) 0) (request housekeeping) (refusal 3) tt refl)
    (pick (eqb id 0x0032) _ (refusal 2)
    (pick (eqb (length parameters) 2) _ (refusal 3)
    (pick (ltb 15 (be16 parameters 0)) (refusal 4) (request (set_mode (be16 parameters 0))) refl tt) refl)
    refl))

-- the tests of a command, from what it decodes to
abbrev tested : Decoded → Bool → ℕ
tested (request q) full = cond (queues (request q) && full) 7 0
tested (refusal n) full = cond (eqb n 2) 2 (cond (eqb n 3) 3 (cond (eqb n 4) 4 0))

one_of : (n : ℕ) (b : Bool) → Says (refusal n) → tested (refusal n) b ≡ n
one_of n b h = at (eqb n 2) refl (eqb n 3) refl (eqb n 4) refl h
  where
    at : (x : Bool) → eqb n 2 ≡ x → (y : Bool) → eqb n 3 ≡ y → (z : Bool) → eqb n 4 ≡ z → (x || (y || z)) ≡ true
        → cond x 2 (cond y 3 (cond z 4 0)) ≡ n
    at true e y f z g h = sym (eqb-true n 2 e)
    at false e true f z g h = sym (eqb-true n 3 f)
    at false e false f true g h = sym (eqb-true n 4 g)
    at false e false f false g h = absurd (eqb-false 0 1 refl (ap (λ (b : Bool). cond b 1 0) h))

-- a refusal counts as an error
counts : (n : ℕ) → Says (refusal n) → is_error n ≡ true
counts n h = at (eqb n 2) (eqb n 3) (eqb n 4) h
  where
    at : (x y z : Bool) → (x || (y || z)) ≡ true → (x || (y || (z || eqb n 7))) ≡ true
    at true y z h = refl
    at false true z h = refl
    at false false true h = refl
    at false false false h = absurd (eqb-false 0 1 refl (ap (λ (b : Bool). cond b 1 0) h))

module _ (s : List ℕ) (cc : Channel) (id sequence : ℕ) (parameters : List ℕ) where
  abbrev asks : Frame
  asks = command cc id sequence parameters

  reply_by : (d : Decoded) → decoded id parameters ≡ d → reply (holds (view s)) asks 126 ≡ tested d (crowded (view s) hk)
  unfolding reply
  reply_by (request q) e = rw e
  reply_by (refusal n) e = rw e

  refusal-reply : (n : ℕ) → decoded id parameters ≡ refusal n → reply (holds (view s)) asks 126 ≡ n
  refusal-reply n e = reply_by (refusal n) e ∙ one_of n (crowded (view s) hk) (subst Says e (says id parameters))

  nonzero : (n : ℕ) → decoded id parameters ≡ refusal n → n ≡ 0 → ⊥
  nonzero n e z =
      eqb-false 0 1 refl
      (ap (λ (b : Bool). cond b 1 0) (ap (λ (m : ℕ). eqb m 2 || (eqb m 3 || eqb m 4)) (sym z) ∙ subst Says e (says id parameters)))

  -- what it comes to: a refusal by its number, a request that finds no room, a request that is taken
  pub refuses : (n : ℕ) → decoded id parameters ≡ refusal n → told n (erred_on s cc n) ≡ told_on s asks 126
  unfolding told_on left_on refused_on
  refuses n e = rw (refusal-reply n e, ne_eqb n 0 (nonzero n e), counts n (subst Says e (says id parameters)))

  pub crowds : (q : Request) → decoded id parameters ≡ request q → (queues (request q) && crowded (view s) hk) ≡ true
      → told 7 (erred_on s cc 7) ≡ told_on s asks 126
  unfolding told_on left_on refused_on
  crowds q e t = rw (reply_by (request q) e, t)

  pub takes : (q : Request) → decoded id parameters ≡ request q → (queues (request q) && crowded (view s) hk) ≡ false
      → told 0 (obeyed_on (noted_on s cc id sequence) q) ≡ told_on s asks 126
  unfolding told_on left_on acted_on performed_on
  takes q e t = rw (reply_by (request q) e, t, e)

-- noting a command leaves how many pieces wait
pub noted_waits : (s : List ℕ) → Whole s → (cc : Channel) (id sequence : ℕ) → waiting_in (noted_on s cc id sequence) ≡ waiting_in s
unfolding noted
noted_waits s f cc id sequence =
    sym (queue-length (noted_on s cc id sequence))
    ∙ ap (λ (c : Controller). length c.streams.queue) (noted-view s f cc id sequence)
    ∙ queue-length s
