-- Document 01, "Frames": what the bytes of a frame say.
-- Assumes nothing.
use Rattle.std.specs.Prelude.{Bool, cond, ◌&&◌, List, ℕ, eqb, leb, length, get_or, drop}
use Rattle.wire.specs.Wire.{be16}

-- "Channel cc is 0A or 0B."
pub data Channel : Type 0 where
  cdmu_a : Channel
  cdmu_b : Channel

-- One constructor a row of the table, with its fields in the row's order; `faulty` is what gets reply 1.
pub data Frame : Type 0 where
  broadcast : Channel → ℕ → ℕ → ℕ → ℕ → Frame
  command : Channel → ℕ → ℕ → List ℕ → Frame
  tick : ℕ → Frame
  sample : ℕ → List ℕ → Frame
  poll : Channel → Frame
  status : Channel → ℕ → ℕ → Frame
  analogue : List ℕ → Frame
  faulty : Frame

abbrev pub byte : List ℕ → ℕ → ℕ
byte f at = get_or f at 0

abbrev pub kind : List ℕ → ℕ → Bool
kind f k = eqb (byte f 0) k

-- the frame that a channel makes, where cc is one
unfoldable pub on_channel : ℕ → (Channel → Frame) → Frame
on_channel cc made = cond (eqb cc 0x0A) (made cdmu_a) (cond (eqb cc 0x0B) (made cdmu_b) faulty)

-- "Numbers are big-endian." The table, row by row: kind, size, fields. "empty, unknown kind or channel, or wrong size": faulty.
-- (An empty frame has no kind: `byte` reads 0 past the end.)
unfoldable pub frame_of : List ℕ → Frame
frame_of f =
    cond (kind f 1 && eqb (length f) 8) (on_channel (byte f 1) (λ cc. broadcast cc (be16 f 2) (be16 f 4) (byte f 6) (byte f 7)))
    (cond (kind f 2 && leb 6 (length f)) (on_channel (byte f 1) (λ cc. command cc (be16 f 2) (be16 f 4) (drop 6 f)))
    (cond (kind f 3 && eqb (length f) 3) (tick (be16 f 1))
    (cond (kind f 4 && leb 2 (length f)) (sample (byte f 1) (drop 2 f))
    (cond (kind f 5 && eqb (length f) 2) (on_channel (byte f 1) poll)
    (cond (kind f 6 && eqb (length f) 4) (on_channel (byte f 1) (λ cc. status cc (byte f 2) (byte f 3)))
    (cond (kind f 7 && eqb (length f) 59) (analogue (drop 1 f)) faulty))))))
