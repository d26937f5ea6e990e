-- Document 01, "Time and mode": seconds and SSP time.
-- Assumes nothing.
use Rattle.std.specs.Prelude.{cond, ℕ, ◌+◌, ◌*◌, ◌/◌, ltb}

-- "Seconds T = time word / 4, rounded down (0 to 16383)."
abbrev pub seconds : ℕ → ℕ
seconds time = time / 4

-- "SSP time = 1024 T + m, in 24 bits"
abbrev pub ssp_time : ℕ → ℕ → ℕ
ssp_time t m = 1024 * t + m

-- the T of an SSP time
abbrev pub seconds_of : ℕ → ℕ
seconds_of ssp = ssp / 1024

-- "m counts ticks since the last accepted broadcast and stays at 1023."
unfoldable pub ticked : ℕ → ℕ
ticked m = cond (ltb m 1023) (m + 1) 1023

-- The words of the last accepted broadcast ("stores its words (altitude bit 15 included)"), and m.
pub record Clock : Type 0 where
  pub time : ℕ
  pub altitude : ℕ
  pub spin : ℕ
  pub phase : ℕ
  pub m : ℕ

-- SSP time now
abbrev pub now : Clock → ℕ
now k = ssp_time (seconds k.time) k.m
