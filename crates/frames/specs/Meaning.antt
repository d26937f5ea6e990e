-- What the code's kinds and channels mean, with the frame's bytes beside them: the paper's frame and channel.
-- Assumes nothing.
use Rattle.std.specs.Prelude.{Result, Ok, Err, List, ◌≡◌, ℕ, ◌≤◌, length, drop}
use Rattle.wire.specs.Wire.{be16}
use Rattle.paper.specs.Frames.{Channel, cdmu_a, cdmu_b, Frame, broadcast, command, tick, sample, poll, status, analogue, faulty, byte, on_channel}
use Rattle.frames.specs.declared.Side.{Side}
use Rattle.frames.specs.declared.Side.TheVariants.{A, B}
use Rattle.frames.specs.declared.NoChannel.{NoChannel}
use Rattle.frames.specs.declared.Kind.{Kind}
use Rattle.frames.specs.declared.Kind.TheVariants.{Broadcast, Command, Tick, Sample, Poll, Status, Analogue, Faulty}

abbrev pub channel : Side → Channel
channel A = cdmu_a
channel B = cdmu_b

abbrev pub meant : Kind → List ℕ → Frame
meant (Broadcast cc) f = broadcast (channel cc) (be16 f 2) (be16 f 4) (byte f 6) (byte f 7)
meant (Command cc) f = command (channel cc) (be16 f 2) (be16 f 4) (drop 6 f)
meant Tick f = tick (be16 f 1)
meant Sample f = sample (byte f 1) (drop 2 f)
meant (Poll cc) f = poll (channel cc)
meant (Status cc) f = status (channel cc) (byte f 2) (byte f 3)
meant Analogue f = analogue (drop 1 f)
meant Faulty f = faulty

-- what a kind says of the frame's size
abbrev pub Sized : Kind → List ℕ → Type 0
Sized (Broadcast cc) f = length f ≡ 8
Sized (Command cc) f = 6 ≤ length f
Sized Tick f = length f ≡ 3
Sized Sample f = 2 ≤ length f
Sized (Poll cc) f = length f ≡ 2
Sized (Status cc) f = length f ≡ 4
Sized Analogue f = length f ≡ 59
Sized Faulty f = Unit {0}

-- the frame that is made on a side, and a faulty one on neither
abbrev pub on_side : Result Side NoChannel → (Channel → Frame) → Frame
on_side (Ok side) made = made (channel side)
on_side (Err e) made = faulty

-- what the side of a channel byte says of any frame with that byte
abbrev pub SideOf : ℕ → Result Side NoChannel → Type 0
SideOf cc r = (made : Channel → Frame) → on_channel cc made ≡ on_side r made
