-- One call of the controller on lent bytes: the reply, the output and the bytes that are left, for any bytes, frame and output.
-- Reply and output are document 01's for the controller that the bytes hold; the bytes that are left are said store by store.
-- Assumes nothing.
use Rattle.std.specs.Prelude.{cond, List, ℕ, eqb, leb, length}
use Rattle.wire.specs.Wire.{put, raised_on}
use Rattle.paper.specs.Frames.{Frame, broadcast, command, tick, sample, poll, status, analogue, faulty, frame_of}
use Rattle.paper.specs.Commands.{decoded}
use Rattle.paper.specs.Acts.{answer}
use Rattle.paper.specs.Step.{holds, reply, count_of, Change, unchanged, late_on, error_on, change}
use Rattle.state.specs.Layout.{state_bytes, housed_at, broadcasts_at}
use Rattle.state.specs.View.{view}
use Rattle.state.specs.Range.{fit}
use Rattle.state.specs.Fresh.{started_on}
use Rattle.lent.specs.Told.{Told, told, Res, res}
use Rattle.machine.specs.Heard.{heard_on, moved_on}
use Rattle.machine.specs.Ticked.{ticked_on}
use Rattle.machine.specs.Sampled.{sampled_on}
use Rattle.machine.specs.Obeyed.{noted_on, erred_on, performed_on}
use Rattle.machine.specs.Polled.{poll_answered_on}

-- the bytes after an accepted frame
unfoldable pub acted_on : List ℕ → Frame → List ℕ
acted_on s (broadcast cc time altitude spin phase) = moved_on (heard_on s cc time altitude spin phase)
acted_on s (command cc id sequence parameters) = performed_on (noted_on s cc id sequence) (decoded id parameters)
acted_on s (tick r) = ticked_on s r
acted_on s (sample t x) = sampled_on s t x
acted_on s (poll cc) = poll_answered_on s cc
acted_on s (status cc low flags) = s
acted_on s (analogue bytes) = put s housed_at bytes
acted_on s faulty = s

-- the bytes after a change that a refusal makes
abbrev pub changed_on : List ℕ → Change → List ℕ
changed_on s unchanged = s
changed_on s (late_on cc) = raised_on s (broadcasts_at cc)
changed_on s (error_on cc n) = erred_on s cc n

-- the bytes after a frame refused with n
unfoldable pub refused_on : List ℕ → ℕ → Frame → List ℕ
refused_on s n f = changed_on s (change n (count_of f))

-- the bytes after a frame with reply n
unfoldable pub left_on : List ℕ → ℕ → Frame → List ℕ
left_on s n f = cond (eqb n 0) (acted_on s f) (refused_on s n f)

-- what a frame comes to, with an output of so many bytes: its reply, and the bytes that are left
unfoldable pub told_on : List ℕ → Frame → ℕ → Told
told_on s f room =
    let n : ℕ = reply (holds (view s)) f room in
    told n (left_on s n f)

-- the same with the output. "Accepted polls write 126 bytes, status 2, others none; later output bytes stay."
unfoldable pub replied_on : List ℕ → Frame → List ℕ → Res
replied_on s f o =
    let t : Told = told_on s f (length o) in
    res t.reply (cond (eqb t.reply 0) (put o 0 (answer (view s) f)) o) t.state

-- "10: state buffer shorter .., or a number kept in it outside its range"
unfoldable pub step_of : List ℕ → List ℕ → List ℕ → Res
step_of s f o = cond (fit s) (replied_on s (frame_of f) o) (res 10 o s)

-- "Starting looks at the buffer's length alone: it replies 0 with a fresh state, later bytes staying, or 10 .. with nothing changed."
unfoldable pub start_of : List ℕ → Told
start_of s = cond (leb state_bytes (length s)) (told 0 (started_on s)) (told 10 s)
