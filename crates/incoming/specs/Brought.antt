-- What a read brings, and what of it is answered.
-- Assumes nothing.
use Rattle.std.specs.Prelude.{ℕ, zero, suc, min, Bool, true, false, cond, List, [], ◌∷◌, eqb, ℤ, pos, negsuc, length, take, Option, Some, None}

-- what a read brings: bytes, the end of the input, or nothing, because it failed
pub data Brought : Type 0 where
  input : List ℕ → Brought
  the_end : Brought
  failed : Brought

-- by its answer and what it left in the chunk
abbrev pub brought : ℤ → List ℕ → Brought
brought (negsuc k) chunk = failed
brought (pos zero) chunk = the_end
brought (pos (suc k)) chunk = input (take (min (suc k) (length chunk)) chunk)

-- a read's answer as that number: how many bytes it brought, and below zero where it failed or was interrupted
abbrev pub count_read : Option ℕ → ℤ
count_read (Some n) = pos n
count_read None = negsuc 0

-- whether there may be more
abbrev pub brings : Brought → Bool
brings (input i) = true
brings the_end = false
brings failed = false

-- what is answered then: at the end of the input, a line still open, as if an LF came
abbrev pub fed : ℕ → Brought → List ℕ
fed n (input i) = i
fed n the_end = cond (eqb n 0) [] (10 ∷ [])
fed n failed = []
