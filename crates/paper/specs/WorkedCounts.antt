-- Worked examples of counts that no table plays, being too long, or never met by a frame that is accepted. The long ones rest on the law
-- that counts are the numbers of the history (`counted`).
-- Assumes nothing.
use Rattle.std.specs.Prelude.{◌≡◌, List, ℕ, take}
use Rattle.paper.specs.Frames.{Channel, cdmu_a, cdmu_b}
use Rattle.paper.specs.Queue.{wrap}
use Rattle.paper.specs.Controller.{start, raised, raised8}
use Rattle.paper.specs.Acts.{noted}
use Rattle.paper.specs.Step.{step}
use Rattle.paper.specs.Runs.{Call, runs}
use Rattle.paper.specs.History.{history, polls_on}
use Rattle.paper.specs.WorkedLines.{hex}

abbrev pub poll_frame : Channel → List ℕ
poll_frame cdmu_a = hex "05 0A"
poll_frame cdmu_b = hex "05 0B"

-- After any calls among which n polls on a channel were accepted, the next that is accepted on it begins with this packet ID and
-- sequence word.
abbrev pub Begins : Channel → ℕ → List ℕ → Type 0
Begins cc n head =
    (calls : List Call) → polls_on cc (history start calls) ≡ n → (step (runs start calls) (poll_frame cc) 126).reply ≡ 0
    → take 4 (step (runs start calls) (poll_frame cc) 126).out ≡ head

pub record Counts : Type 0 where
  -- "C000 plus that channel's telemetry count modulo 16384"
  pub polls_16383 : Begins cdmu_a 16383 (hex "0F94 FFFF")
  pub polls_16384 : Begins cdmu_a 16384 (hex "0F94 C000")
  pub polls_40000 : Begins cdmu_b 40000 (hex "0FB4 DC40")
  pub polls_65535 : Begins cdmu_b 65535 (hex "0FB4 FFFF")
  pub polls_65536 : Begins cdmu_b 65536 (hex "0FB4 C000")
  -- "All counts of 16 bits go from 65535 to 0 on purpose; the error count is 8 bits and wraps too."
  pub wraps : (raised 65534 ≡ 65535) × (raised 65535 ≡ 0) × (raised8 254 ≡ 255) × (raised8 255 ≡ 0)
  -- "modulo 4096 (ours)": the count after a piece's own
  pub pieces_wrap : (wrap 4094 ≡ 4095) × (wrap 4095 ≡ 0)
  -- "stores the low bytes of sequence and id": of the ids that are accepted none has a low byte above 32
  pub sequence_low : (noted start cdmu_a 0x12F6 0x34E5).tallies.sequence ≡ 0xE5
  pub id_low : (noted start cdmu_a 0x12F6 0x34E5).tallies.id ≡ 0xF6
