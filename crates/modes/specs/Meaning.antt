-- The code's modes beside document 01's, and the number that a mode with its lock is.
-- Assumes nothing.
use Rattle.std.specs.Prelude.{◌≡◌, ℕ, ◌%◌, leb}
use Rattle.paper.specs.Mode as paper
use Rattle.modes.specs.declared.Mode.{Mode}
use Rattle.modes.specs.declared.Mode.TheVariants.{Emc, Upper, Mid, Lower, Proximity, Surface, Extended, Diagnostic}
use Rattle.modes.specs.declared.Nibble.{Nibble}

-- the paper's mode that a mode stands for
abbrev pub mode_meant : Mode → paper.Mode
mode_meant Emc = paper.emc
mode_meant Upper = paper.upper
mode_meant Mid = paper.mid
mode_meant Lower = paper.lower
mode_meant Proximity = paper.proximity
mode_meant Surface = paper.surface
mode_meant Extended = paper.extended
mode_meant Diagnostic = paper.diagnostic

-- the paper's number of a mode
abbrev pub number_meant : Mode → ℕ
number_meant mode = paper.number (mode_meant mode)

-- the four bits of a mode with its lock
abbrev pub bits : Nibble → ℕ
bits n = paper.nibble (mode_meant n.mode) n.locked

-- what the four lowest bits of a byte say: as a number, and each half of it
abbrev pub Keeps : ℕ → Nibble → Type 0
Keeps byte n = (bits n ≡ byte % 16) × (mode_meant n.mode ≡ paper.mode_of (byte % 8)) × (n.locked ≡ leb 8 (byte % 16))
