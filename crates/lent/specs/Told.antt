-- What a call on lent bytes comes to: the reply, the output where there is one, and the bytes that are left.
-- Assumes nothing.
use Rattle.std.specs.Prelude.{List, ℕ}

pub record Told : Type 0 where
  pub reply : ℕ
  pub state : List ℕ

abbrev pub told : ℕ → List ℕ → Told
told n s = record { reply = n; state = s }

-- the same with an output
pub record Res : Type 0 where
  pub reply : ℕ
  pub out : List ℕ
  pub state : List ℕ

abbrev pub res : ℕ → List ℕ → List ℕ → Res
res n o s = record { reply = n; out = o; state = s }
