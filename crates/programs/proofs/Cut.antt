-- HOW read(2) CUTS THE INPUT DOES NOT MATTER: what a program writes for chunks that come one after another is what it writes for
-- the whole input. Assumes nothing.
use mathlib.Core.Path.{◌≡◌}
use mathlib.Core.List.{List, [], flatten}
use Prim.Native.Nat.{ℕ}
use Rattle.lines.specs.Lines.{kept}
use Rattle.lines.specs.Talk.{spoken_in}
use Rattle.lines.proofs.Talk.{cut}
use Rattle.programs.specs.Bench as Bench
use Rattle.programs.specs.Reader as Reader
use Rattle.programs.specs.Programs.{longest, bench, reader}

pub bench-cut : (chunks : List (List ℕ)) → spoken_in longest Bench.answer_to (kept []) Bench.begun chunks ≡ bench (flatten chunks)
unfolding bench
bench-cut chunks = cut longest Bench.answer_to (kept []) Bench.begun chunks

pub reader-cut : (chunks : List (List ℕ)) → spoken_in longest Reader.answer_to (kept []) Reader.begun chunks ≡ reader (flatten chunks)
unfolding reader
reader-cut chunks = cut longest Reader.answer_to (kept []) Reader.begun chunks
