-- A run of digits is taken by a scan for the line. Assumes nothing.
use mathlib.Core.Path.{◌≡◌, sym, ap, ◌∙◌}
use mathlib.Core.List.{List, [], ◌∷◌, ◌++◌, append_assoc, append-nil}
use Prim.Native.Nat.{ℕ, ◌+◌, ◌*◌, ◌≤◌, ◌<◌}
use native.Mathlib.Omega.{arith}
use lib.ListN.{length, take, drop, get_or, length-append, length-take, take-append-drop}
use lib.Seq.{drop-drop}
use borrow.Author.Tests.{lt-ltb, ne_eqb}
use Rattle.lines.specs.Hex.{bytes, read_hex, value_of}
use Rattle.lines.specs.Lines.{kept, scan, line_ended}
use Rattle.hexline.proofs.HexLines.{scan-ended}
use Rattle.hexrun.specs.Reading.{Reading}
use Rattle.hexrun.proofs.Runs.{digits}

-- a digit is no LF
no_lf : (c : ℕ) → value_of c < 16 → c ≡ 10 → ⊥
no_lf c h e =
    let p : value_of c ≡ 16 = ap value_of e in
    omega arith

-- one character that is no LF, where there is room
scan-kept : (longest : ℕ) (l : List ℕ) (c : ℕ) (rest : List ℕ) → (c ≡ 10 → ⊥) → length l < longest → scan longest (kept l) (c ∷ rest) ≡ scan longest (kept (l ++ (c ∷ []))) rest
unfolding scan
scan-kept longest l c rest n h = rw (ne_eqb c 10 n, lt-ltb (length l) longest h)

-- a run of digits is taken for the line
scan-digits : (longest : ℕ) (l t rest o : List ℕ) → read_hex t ≡ bytes o → length l + length t ≤ longest → scan longest (kept l) (t ++ rest) ≡ scan longest (kept (l ++ t)) rest
unfolding read_hex
scan-digits longest l [] rest o e h = rw (append-nil l)
scan-digits longest l (a ∷ []) rest o e h = absurd (let z : ◌≡◌ {A = ℕ} 0 1 = cc in omega arith)
scan-digits longest l (a ∷ b ∷ t) rest o e h =
    let d = digits (value_of a) (value_of b) (read_hex t) o e in
    let l₁ : List ℕ = l ++ (a ∷ []) in
    let l₂ : List ℕ = l₁ ++ (b ∷ []) in
    let k₁ : length l₁ ≡ length l + 1 = length-append l (a ∷ []) in
    let k₂ : length l₂ ≡ length l₁ + 1 = length-append l₁ (b ∷ []) in
    scan-kept longest l a (b ∷ (t ++ rest)) (no_lf a d.high) (omega arith)
    ∙ scan-kept longest l₁ b (t ++ rest) (no_lf b d.low) (omega arith)
    ∙ scan-digits longest l₂ t rest d.others d.rest (omega arith)
    ∙ ap (λ (x : List ℕ). scan longest (kept x) rest) (append_assoc l₁ (b ∷ []) t ∙ append_assoc l (a ∷ []) (b ∷ t))

-- the line ended: a scan of the chunk takes those digits for the line
pub reading-ended : (longest from n : ℕ) (chunk frame : List ℕ) → Reading from n chunk frame → 2 * n ≤ longest → from + 2 * n < length chunk → get_or chunk (from + 2 * n) 0 ≡ 10
    → line_ended (kept (take (2 * n) (drop from chunk))) (drop (from + 2 * n + 1) chunk) ≡ scan longest (kept []) (drop from chunk)
reading-ended longest from n chunk frame r k h e =
    let t : List ℕ = take (2 * n) (drop from chunk) in
    let long : length t ≤ longest = omega (arith, length-take (2 * n) (drop from chunk)) in
    sym (scan-ended longest (kept t) chunk (from + 2 * n) h e)
    ∙ ap (λ (x : List ℕ). scan longest (kept t) x) (sym (drop-drop (2 * n) from chunk))
    ∙ sym (scan-digits longest [] t (drop (2 * n) (drop from chunk)) (take n frame) r.read (omega arith))
    ∙ ap (scan longest (kept [])) (take-append-drop (2 * n) (drop from chunk))
