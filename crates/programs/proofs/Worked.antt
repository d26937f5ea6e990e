-- The worked examples of both programs hold. Assumes nothing.
use mathlib.Core.Path.{refl}
use Rattle.lines.specs.Hex.{read_hex, hex_of}
use Rattle.lines.specs.Frames.{lines_in}
use Rattle.programs.specs.Worked.{Worked}

pub worked : Worked
unfolding read_hex hex_of lines_in
worked =
    record {
      longest_frame = refl;
      over_long = refl;
      bench_refuses = refl;
      bench_answers = refl;
      reader_refuses = refl;
      reader_takes = refl;
      reader_hands_out = refl;
    }
