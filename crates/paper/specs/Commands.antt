-- Document 01, "Commands": "What a command frame decodes to is a request with its fields or a refusal."
-- Assumes nothing.
use Rattle.std.specs.Prelude.{Bool, false, cond, not, ◌&&◌, ◌||◌, List, [], ◌∷◌, ℕ, zero, suc, ◌+◌, ◌/◌, ◌%◌, ◌^◌, eqb, ltb, length}
use Rattle.wire.specs.Wire.{be16}
use Rattle.paper.specs.Streams.{Row, table}

pub data Request : Type 0 where
  clear : ℕ → Request
  housekeeping : Request
  set_mode : ℕ → Request

pub data Decoded : Type 0 where
  request : Request → Decoded
  refusal : ℕ → Decoded

-- "bit n names stream n"
abbrev pub names : ℕ → ℕ → Bool
names mask n = eqb (mask / 2 ^ n % 2) 1

-- the bits of some rows' streams
abbrev pub bits_of : List Row → ℕ
bits_of [] = 0
bits_of (r ∷ rs) = 2 ^ r.stream + bits_of rs

-- 0E74: the bits of the table's streams
abbrev pub clear_mask : ℕ
clear_mask = bits_of table

-- "bits outside 0E74": one of the lowest n bits
abbrev pub outside_below : ℕ → ℕ → Bool
outside_below mask zero = false
outside_below mask (suc n) = (names mask n && not (names clear_mask n)) || outside_below mask n

unfoldable pub outside : ℕ → Bool
outside mask = outside_below mask 16

-- "3 wrong parameter .. length"
abbrev pub with : ℕ → List ℕ → Decoded → Decoded
with n parameters d = cond (eqb (length parameters) n) d (refusal 3)

-- "0013 clear streams, a two-byte mask: .. bits outside 0E74 give 4"; "0016 send housekeeping, no parameters"; "0032 set mode,
-- two bytes, 0 to 15"; "2 command id .. not carried"
unfoldable pub decoded : ℕ → List ℕ → Decoded
decoded id parameters =
    cond (eqb id 0x0013) (with 2 parameters (cond (outside (be16 parameters 0)) (refusal 4) (request (clear (be16 parameters 0)))))
    (cond (eqb id 0x0016) (with 0 parameters (request housekeeping))
    (cond (eqb id 0x0032) (with 2 parameters (cond (ltb 15 (be16 parameters 0)) (refusal 4) (request (set_mode (be16 parameters 0)))))
    (refusal 2)))

-- the reply number that a command is refused with by what it says itself, and 0 for a request
abbrev pub refused_with : Decoded → ℕ
refused_with (request q) = 0
refused_with (refusal n) = n
