-- From what a frame comes to, to what the call does: for an output that is long enough its length does not matter, and a frame that
-- writes nothing leaves it as it is.
-- Assumes nothing.
use mathlib.Core.Path.{◌≡◌, refl, ap, ◌∙◌}
use mathlib.Core.Bool.{Bool, true, false, cond}
use mathlib.Core.List.{List, []}
use Prim.Native.Nat.{ℕ, ◌≤◌}
use borrow.Author.Tests.{le-ltb}
use lib.Dec.{eqb}
use lib.ListN.{length, drop}
use lib.Seq.{take_all}
use Rattle.wire.specs.Wire.{put, part}
use Rattle.paper.specs.Frames.{Frame}
use Rattle.paper.specs.Acts.{answer}
use Rattle.paper.specs.Step.{holds, reply, Count, of_broadcasts, of_commands, of_polls, of_none, count_of, change}
use Rattle.lent.specs.Told.{Told, told, res}
use Rattle.state.specs.View.{view}
use Rattle.machine.specs.Called.{changed_on, refused_on, told_on, replied_on}

-- the output is long enough, so how long does not matter
pub roomy : (s : List ℕ) (room : ℕ) → 126 ≤ room → (f : Frame) → reply (holds (view s)) f room ≡ reply (holds (view s)) f 126
unfolding reply
roomy s room h f = rw (le-ltb room 126 h)

-- a frame that writes nothing
pub quiet : (s o : List ℕ) → 126 ≤ length o → (f : Frame) → answer (view s) f ≡ [] → (r : ℕ) (x : List ℕ)
    → told r x ≡ told_on s f 126 → res r o x ≡ replied_on s f o
unfolding told_on replied_on
quiet s o h f silent r x e =
    ap (λ (t : Told). res t.reply o t.state) e ∙ rw (roomy s (length o) h f, silent) (at (eqb (reply (holds (view s)) f 126) 0))
  where
    t : Told
    t = told_on s f 126

    at : (b : Bool) → res t.reply o t.state ≡ res t.reply (cond b (put o 0 []) o) t.state
    at true = refl
    at false = refl

-- the 58 bytes of a frame 07
pub housed-bytes : (f : List ℕ) → length (drop 1 f) ≤ 58 → part f 1 58 ≡ drop 1 f
housed-bytes f h = take_all 58 (drop 1 f) h

-- 8 changes nothing, whatever the frame
pub short-stays : (s : List ℕ) (f : Frame) → s ≡ refused_on s 8 f
unfolding refused_on
short-stays s f = at (count_of f)
  where
    at : (k : Count) → s ≡ changed_on s (change 8 k)
    at (of_broadcasts cc) = refl
    at (of_commands cc) = refl
    at (of_polls cc) = refl
    at of_none = refl
