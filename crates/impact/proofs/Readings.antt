-- Where a reading changes its sign, and the one that tempts: 4095 is no great shock.
-- Assumes nothing.
use mathlib.Core.Path.{◌≡◌, refl}
use mathlib.Core.Bool.{false}
use lib.IntN.{pos, negsuc}
use Rattle.paper.specs.Impact.{signed, above}

pub at_2047 : signed 2047 ≡ pos 2047
unfolding signed
at_2047 = refl

pub at_2048 : signed 2048 ≡ negsuc 2047
unfolding signed
at_2048 = refl

pub at_4095 : signed 4095 ≡ negsuc 0
unfolding signed
at_4095 = refl

pub not_above_4095 : above 4095 ≡ false
unfolding above signed
not_above_4095 = refl
