-- One call of the controller beside document 01's step, and calls one after the other.
-- Assumes nothing.
use Rattle.std.specs.Prelude.{◌≡◌, List, [], ◌∷◌, ℕ}
use Rattle.wire.specs.Wire.{put}
use Rattle.paper.specs.Step.{Outcome}
use Rattle.state.specs.View.{view}
use Rattle.state.specs.Range.{Fit}
use Rattle.lent.specs.Told.{Res}
use Rattle.machine.specs.Called.{step_of}

-- What a call on bytes came to, and an outcome of document 01, with the output o that was lent: the same reply; the outcome's bytes
-- at the output's front, the rest as it was; bytes that hold the controller that is left, and fit.
pub record Agrees (r : Res) (p : Outcome) (o : List ℕ) : Type 0 where
  pub reply : r.reply ≡ p.reply
  pub out : r.out ≡ put o 0 p.out
  pub held : view r.state ≡ p.next
  pub fits : Fit r.state

-- the bytes that calls leave
unfoldable pub run_of : List ℕ → List (List ℕ × List ℕ) → List ℕ
run_of s [] = s
run_of s (x ∷ xs) = run_of (step_of s x.0 x.1).state xs

-- each call's reply, and its output afterwards
unfoldable pub replies_of : List ℕ → List (List ℕ × List ℕ) → List (ℕ × List ℕ)
replies_of s [] = []
replies_of s (x ∷ xs) =
    let r : Res = step_of s x.0 x.1 in
    (r.reply, r.out) ∷ replies_of r.state xs
