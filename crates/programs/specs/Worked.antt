-- Examples of what both programs take and print, worked out by hand from document 01's "Programs".
-- Assumes nothing.
use Rattle.std.specs.Prelude.{◌≡◌, [], ◌∷◌, replicate}
use Rattle.lines.specs.Frames.{frames_of}
use Rattle.lines.specs.Worked.{◌lf◌}
use Rattle.programs.specs.Programs.{longest}
use Rattle.programs.specs.Says.{bench_line, reader_line}

pub record Worked : Type 0 where
  -- "at most 1,028 digits": 514 bytes, as the longest frame has; a pair of digits more is too many. ('0' is 48.)
  pub longest_frame : frames_of longest (replicate 1028 48) ≡ replicate 514 0 ∷ []
  pub over_long : frames_of longest (replicate 1030 48) ≡ [] ∷ []
  -- a refusal, a reply with bytes
  pub bench_refuses : bench_line (10, []) ≡ "0A" lf []
  pub bench_answers : bench_line (0, 0x65 ∷ 0x5A ∷ []) ≡ "00655A" lf []
  pub reader_refuses : reader_line (22, []) ≡ "22" lf []
  pub reader_takes : reader_line (0, []) ≡ "0" lf []
  pub reader_hands_out : reader_line (1, 0x88 ∷ 0x0C ∷ []) ≡ "1 880C" lf []
