-- What is answered at the end of the input. Assumes nothing.
use Rattle.std.proofs.Common.{◌≡◌, List, [], ◌∷◌, ℕ, ◌≤◌, length, take, arith, Option, Some}
use lib.ListN.{set}
use borrow.Author.Tests.{ne_eqb}
use Rattle.incoming.specs.Brought.{brought, count_read, fed}

-- a line that is open is ended by an LF
pub feed_fed : (s : List ℕ) (n most : ℕ) (got : Option ℕ) → got ≡ Some most → most ≤ 0 → (n ≡ 0 → ⊥) → 1 ≤ length s → take 1 (set s 0 10) ≡ fed n (brought (count_read got) s)
feed_fed [] n most got g m h k = absurd (omega arith)
feed_fed (x ∷ s) n most got g m h k =
    let e : most ≡ 0 = omega arith in
    rw (g, e, ne_eqb n 0 h)
