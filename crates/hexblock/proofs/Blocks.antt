-- Laws of a block's values and bytes. Assumes nothing.
use mathlib.Core.Path.{◌≡◌, sym, ap, ◌∙◌}
use mathlib.Core.List.{List}
use Prim.Native.Nat.{ℕ, ◌+◌, ◌*◌, ◌≤◌, ◌<◌}
use native.Mathlib.Omega.{arith}
use lib.ListN.{length, take, drop, get_or, set}
use lib.Seq.{take_all}
use borrow.Author.Tests.{lt-ltb}
use Rattle.lines.specs.Hex.{Read, bytes, bytes_in_front, read_hex}
use Rattle.hexdigits.proofs.HexDigits.{read_step, read-end}
use Rattle.hexblock.specs.Valued.{Valued}

-- a turn of a block: two values are a byte
pub block_step : (s v out : List ℕ) (n : ℕ) → n < 16 → length s ≡ 32 → length out ≡ 16 → Valued 32 s v
    → bytes_in_front (take (n + 1) (set out n (get_or v (2 * n) 0 * 16 + get_or v (2 * n + 1) 0))) (read_hex (drop (2 * (n + 1)) s)) ≡ bytes_in_front (take n out) (read_hex (drop (2 * n) s))
block_step s v out n h a b w =
    let x = get_or v (2 * n) 0 in
    let y = get_or v (2 * n + 1) 0 in
    read_step s out n (x * 16 + y) (omega arith) (omega arith)
    (λ (r : Read). rw (← w.each (2 * n) (omega arith), ← w.each (2 * n + 1) (omega arith), lt-ltb x 16 (w.digits (2 * n) (omega arith)), lt-ltb y 16 (w.digits (2 * n + 1) (omega arith))))

-- the end of a block
pub block_end : (s out : List ℕ) (n : ℕ) → 16 ≤ n → length s ≡ 32 → length out ≡ 16 → bytes_in_front (take n out) (read_hex (drop (2 * n) s)) ≡ read_hex s → read_hex s ≡ bytes out
block_end s out n h a b e = sym e ∙ read-end s out n (omega arith) ∙ ap bytes (take_all n out (omega arith))
