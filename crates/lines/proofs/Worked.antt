-- The worked examples of lines hold. Assumes nothing.
use mathlib.Core.Path.{refl}
use Rattle.lines.specs.Hex.{read_hex, hex_of}
use Rattle.lines.specs.Frames.{lines_in}
use Rattle.lines.specs.Worked.{Worked}

pub worked : Worked
unfolding read_hex hex_of lines_in
worked =
    record {
      digits = refl;
      ends = refl;
      last = refl;
      last_odd = refl;
      returns = refl;
      none = refl;
      longest = refl;
      written = refl;
      decimals = refl;
    }
