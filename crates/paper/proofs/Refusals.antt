-- Document 01, "What the controller replies": the laws about refusals.
-- Assumes nothing.
use mathlib.Core.Path.{◌≡◌, refl, sym, ap, ◌∙◌}
use mathlib.Core.Bool.{Bool, true, false, cond, false≢true}
use mathlib.Core.List.{List, [], ◌∷◌, map}
use Prim.Native.Nat.{ℕ}
use lib.Dec.{eqb, ltb}
use borrow.Author.Tests.{eqb-true, eqb-false, ne_eqb}
use Rattle.paper.specs.Frames.{Channel, Frame, broadcast, command, tick, sample, poll, status, analogue, faulty, frame_of}
use Rattle.paper.specs.Controller.{Controller}
use Rattle.paper.specs.Acts.{accepted, answer}
use Rattle.paper.specs.Step.{grounds, unfit, holds, applies, first, order, reply, tests, is_error, late_heard, erred, count_of, Change, unchanged, late_on, error_on, change, changed, is_listed, changes_listed, refused, Outcome, outcome, replied, step}

-- "Tested in the order 10, 8, 1, 2, 3, 4, 5, 6, 7, 9"
pub in_order : order ≡ 10 ∷ 8 ∷ 1 ∷ 2 ∷ 3 ∷ 4 ∷ 5 ∷ 6 ∷ 7 ∷ 9 ∷ []
in_order = refl

-- "10: state buffer shorter .., or a number kept in it outside its range", whatever the frame and the output
pub unfit_gets_10 : (f : Frame) (room : ℕ) → reply unfit f room ≡ 10
unfolding reply
unfit_gets_10 f room = refl

-- the numbers of the first are some of the second, in that order
abbrev in_turn : List ℕ → List ℕ → Bool
in_turn [] ms = true
in_turn (n ∷ ns) [] = false
in_turn (n ∷ ns) (m ∷ ms) = cond (eqb m n) (in_turn ns ms) (in_turn (n ∷ ns) ms)

-- No kind of frame lists a number twice, nor one that is any frame's: the second would never be asked. And every number that one lists
-- stands in the order.
pub each_once : (c : Controller) (f : Frame) (room : ℕ) → in_turn (map (λ g. g.0) (tests (holds c) f room)) order ≡ true
each_once c (broadcast cc time altitude spin phase) room = refl
each_once c (command cc id sequence parameters) room = refl
each_once c (tick r) room = refl
each_once c (sample s x) room = refl
each_once c (poll cc) room = refl
each_once c (status cc low flags) room = refl
each_once c (analogue bytes) room = refl
each_once c faulty room = refl

-- ---- "the first that applies is given"

-- a frame's own ground with this number does not apply
abbrev pub Clear : Controller → Frame → ℕ → Type 0
Clear c f n = applies (grounds c f) n ≡ false

-- whoever gets 0 has passed each test
pub record Passed (c : Controller) (f : Frame) (room : ℕ) : Type 0 where
  pub output : ltb room 126 ≡ false
  pub shape : Clear c f 1
  pub carries : Clear c f 2
  pub sized : Clear c f 3
  pub ranged : Clear c f 4
  pub timely : Clear c f 5
  pub moded : Clear c f 6
  pub roomy : Clear c f 7
  pub waits : Clear c f 9

abbrev among : ℕ → List ℕ → Bool
among n [] = false
among n (m ∷ ms) = cond (eqb m n) true (among n ms)

-- where the first that applies is 0, and 0 is none of them, none applies
none_first : (gs : List (ℕ × Bool)) (ms : List ℕ) → among 0 ms ≡ false → first ms gs ≡ 0 → (n : ℕ) → among n ms ≡ true
    → applies gs n ≡ false
none_first gs [] z e n i = absurd (false≢true i)
none_first gs (m ∷ ms) z e n i = at (applies gs m) refl e (eqb m 0) refl z (λ y r j. none_first gs ms y r n j)
  where
    Rest : Type 0
    Rest = among 0 ms ≡ false → first ms gs ≡ 0 → among n ms ≡ true → applies gs n ≡ false

    here : applies gs m ≡ false → (b : Bool) → eqb m n ≡ b → cond b true (among n ms) ≡ true
        → (among n ms ≡ true → applies gs n ≡ false) → applies gs n ≡ false
    here h true k j rest = ap (applies gs) (sym (eqb-true m n k)) ∙ h
    here h false k j rest = rest j

    at : (b : Bool) → applies gs m ≡ b → cond b m (first ms gs) ≡ 0 → (y : Bool) → eqb m 0 ≡ y
        → cond y true (among 0 ms) ≡ false → Rest → applies gs n ≡ false
    at b h r true k y rest = absurd (false≢true (sym y))
    at true h r false k y rest = absurd (eqb-false m 0 k r)
    at false h r false k y rest = here h (eqb m n) refl i (rest y r)

pub passed : (c : Controller) (f : Frame) (room : ℕ) → reply (holds c) f room ≡ 0 → Passed c f room
unfolding reply
passed c f room e =
    let no = none_first (tests (holds c) f room) order refl e in
    record {
      output = no 8 refl;
      shape = no 1 refl;
      carries = no 2 refl;
      sized = no 3 refl;
      ranged = no 4 refl;
      timely = no 5 refl;
      moded = no 6 refl;
      roomy = no 7 refl;
      waits = no 9 refl;
    }

-- ---- what a call leaves

-- an outcome by whether the reply is 0
abbrev either : Bool → ℕ → Frame → Controller → Outcome
either b n f c = cond b (outcome 0 (answer c f) (accepted c f)) (outcome n [] (refused n f c))

-- the reply that is given is the first test's that applies
pub reply_is : (c : Controller) (bytes : List ℕ) (room : ℕ) → (step c bytes room).reply ≡ reply (holds c) (frame_of bytes) room
unfolding step replied
reply_is c bytes room = go (reply (holds c) (frame_of bytes) room)
  where
    at : (n : ℕ) (b : Bool) → eqb n 0 ≡ b → (either b n (frame_of bytes) c).reply ≡ n
    at n true e = sym (eqb-true n 0 e)
    at n false e = refl

    go : (n : ℕ) → (either (eqb n 0) n (frame_of bytes) c).reply ≡ n
    go n = at n (eqb n 0) refl

-- "No refusal touches the output."
pub silent : (c : Controller) (bytes : List ℕ) (room : ℕ) → ((step c bytes room).reply ≡ 0 → ⊥) → (step c bytes room).out ≡ []
unfolding step replied
silent c bytes room h = at (reply (holds c) (frame_of bytes) room) (eqb (reply (holds c) (frame_of bytes) room) 0) h
  where
    at : (n : ℕ) (b : Bool) → ((either b n (frame_of bytes) c).reply ≡ 0 → ⊥) → (either b n (frame_of bytes) c).out ≡ []
    at n true h = absurd (h refl)
    at n false h = refl

-- a refused call leaves what its refusal lists
pub leaves : (c : Controller) (bytes : List ℕ) (room n : ℕ) → (step c bytes room).reply ≡ n → (n ≡ 0 → ⊥)
    → (step c bytes room).next ≡ refused n (frame_of bytes) c
unfolding step replied
leaves c bytes room n e h =
    let r : reply (holds c) (frame_of bytes) room ≡ n = sym (reply_is c bytes room) ∙ e in
    rw (r, ne_eqb n 0 h)

-- What holds of no change, and of each that is listed, holds of what any refusal changes.
pub any_change : (P : Change → Type 0) → P unchanged → ((cc : Channel) → P (late_on cc)) → ((cc : Channel) (m : ℕ) → P (error_on cc m))
    → (x : Change) → P x
any_change P none late err unchanged = none
any_change P none late err (late_on cc) = late cc
any_change P none late err (error_on cc m) = err cc m

-- of the controller that it leaves
pub refused_any : (P : Controller → Type 0) (n : ℕ) (f : Frame) (c : Controller) → P c → ((cc : Channel) → P (late_heard c cc))
    → ((cc : Channel) (m : ℕ) → P (erred c cc m)) → P (refused n f c)
unfolding refused
refused_any P n f c k late err = any_change (λ x. P (changed x c)) k late err (change n (count_of f))

-- what is not listed is no change
pub unlisted : (x : Change) → is_listed x ≡ false → x ≡ unchanged
unlisted =
    any_change (λ x. is_listed x ≡ false → x ≡ unchanged) (λ e. refl) (λ cc e. absurd (false≢true (sym e)))
    (λ cc m e. absurd (false≢true (sym e)))

-- "A broadcast refused with 5 raises only its channel's broadcast count."
pub late_raises : (c : Controller) (bytes : List ℕ) (room : ℕ) (cc : Channel) (time altitude spin phase : ℕ)
    → frame_of bytes ≡ broadcast cc time altitude spin phase → (step c bytes room).reply ≡ 5
    → (step c bytes room).next ≡ late_heard c cc
unfolding refused
late_raises c bytes room cc time altitude spin phase f e = leaves c bytes room 5 e (eqb-false 5 0 refl) ∙ rw f

-- "A command refused with 2, 3, 4 or 7 raises its channel's command packet count and the error count and sets the error code to
-- the reply number."
pub error_raises : (c : Controller) (bytes : List ℕ) (room n : ℕ) (cc : Channel) (id sequence : ℕ) (parameters : List ℕ)
    → frame_of bytes ≡ command cc id sequence parameters → (step c bytes room).reply ≡ n → is_error n ≡ true
    → (step c bytes room).next ≡ erred c cc n
unfolding refused
error_raises c bytes room n cc id sequence parameters f e t = leaves c bytes room n e nonzero ∙ rw (f, t)
  where
    nonzero : n ≡ 0 → ⊥
    nonzero z = elim-false (sym (ap is_error z) ∙ t)
      where
        elim-false : false ≡ true → ⊥
        elim-false p = let z : ◌≡◌ {A = ℕ} 0 1 = ap (λ b. cond b 1 0) p in eqb-false 0 1 refl z

stays : (n : ℕ) (f : Frame) (c : Controller) → changes_listed n f ≡ false → refused n f c ≡ c
unfolding refused
stays n f c l = ap (λ x. changed x c) (unlisted (change n (count_of f)) l)

-- "Every other refusal changes nothing."
pub nothing_else : (c : Controller) (bytes : List ℕ) (room n : ℕ) → (step c bytes room).reply ≡ n → (n ≡ 0 → ⊥)
    → changes_listed n (frame_of bytes) ≡ false → (step c bytes room).next ≡ c
nothing_else c bytes room n e h l = leaves c bytes room n e h ∙ stays n (frame_of bytes) c l
