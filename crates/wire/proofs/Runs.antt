-- Laws of a run of bytes that is stored at an offset: what is read of it, and that the rest is as it was.
-- They are stated once over the offset and the length; those of numbers follow from those of bytes. Assumes nothing.
use Rattle.std.proofs.Common.{◌≡◌, ℕ, suc, ◌+◌, ◌-◌, ◌*◌, ◌/◌, ◌%◌, ◌<◌, ◌≤◌, List, [], ◌∷◌, ◌++◌, length, get_or, take, drop, set, sym, ap, ◌∙◌, append_assoc, append-nil, add-zero, add_assoc, add-one, arith, length-append, length-drop, take-append-drop, drop_of_length-le, length-take-le, get_or-drop, drop-cons, get_or-take, drop-drop, take_at, get_or-append-add, ext_get_or, take-add, drop_at}
use Prim.{Dec, yes, no}
use native.Mathlib.Decide.{dec_lt}
use lib.ListN.{get_or-append}
use lib.Seq.{set_split, drop-append-add}
use Rattle.wire.specs.Wire.{be16, be24, bytes16, bytes24, part, put}

-- ---- a part's length and its bytes

pub length_part : (x : List ℕ) (i m : ℕ) → i + m ≤ length x → length (part x i m) ≡ m
length_part x i m h = length-take-le m (drop i x) (simp length-drop (omega arith))

pub get_or-part : (x : List ℕ) (i m j : ℕ) → j < m → get_or (part x i m) j 0 ≡ get_or x (i + j) 0
get_or-part x i m j h = get_or-take m (drop i x) j 0 h ∙ get_or-drop i x j 0

-- parts of two lists, at offsets that may differ, that agree byte by byte
part_same : (x : List ℕ) (i : ℕ) (y : List ℕ) (k m : ℕ) → i + m ≤ length x → k + m ≤ length y
    → ((j : ℕ) → j < m → get_or x (i + j) 0 ≡ get_or y (k + j) 0) → part x i m ≡ part y k m
part_same x i y k m hx hy same =
    let lx : length (part x i m) ≡ m = length_part x i m hx in
    ext_get_or 0 _ _ (lx ∙ sym (length_part y k m hy))
    (λ j b.
    let c : j < m = rw lx at b in
    get_or-part x i m j c ∙ same j c ∙ sym (get_or-part y k m j c))

pub part_ext : (x y : List ℕ) (i m : ℕ) → i + m ≤ length x → i + m ≤ length y
    → ((j : ℕ) → j < m → get_or x (i + j) 0 ≡ get_or y (i + j) 0) → part x i m ≡ part y i m
part_ext x y i m = part_same x i y i m

-- ---- one run

module _ (d : List ℕ) (at : ℕ) (v : List ℕ) (fits : at + length v ≤ length d) where
  -- what stands before the run, and that with the run, has the length it should
  before : length (take at d) ≡ at
  before = length-take-le at d (omega arith)

  seam : length (take at d ++ v) ≡ at + length v
  seam = length-append (take at d) v ∙ rw before

  pub length-put : length (put d at v) ≡ length d
  length-put = length-append (take at d ++ v) (drop (at + length v) d) ∙ rw (seam, length-drop) (omega arith)

  pub drop-put : (n : ℕ) → at + length v ≤ n → drop n (put d at v) ≡ drop n d
  drop-put n h =
      let k : ℕ = n - (at + length v) in
      let e : n ≡ length (take at d ++ v) + k = omega (arith, seam) in
      let whole : at + length v + k ≡ n = omega arith in
      ap (λ (m : ℕ). drop m (put d at v)) e
      ∙ drop-append-add (take at d ++ v) (drop (at + length v) d) k
      ∙ drop-drop k (at + length v) d
      ∙ ap (λ (m : ℕ). drop m d) whole

  pub get_or-put_before : (i : ℕ) → i < at → get_or (put d at v) i 0 ≡ get_or d i 0
  get_or-put_before i h =
      get_or-append (take at d ++ v) (drop (at + length v) d) 0 i (omega (arith, seam))
      ∙ get_or-append (take at d) v 0 i (omega (arith, before))
      ∙ get_or-take at d i 0 h

  pub get_or-put_inside : (i : ℕ) → i < length v → get_or (put d at v) (at + i) 0 ≡ get_or v i 0
  get_or-put_inside i h =
      get_or-append (take at d ++ v) (drop (at + length v) d) 0 (at + i) (omega (arith, seam))
      ∙ ap (λ (n : ℕ). get_or (take at d ++ v) (n + i) 0) (sym before)
      ∙ get_or-append-add (take at d) v i 0

  pub get_or-put_after : (i : ℕ) → at + length v ≤ i → get_or (put d at v) i 0 ≡ get_or d i 0
  get_or-put_after i h =
      let k : ℕ = i - (at + length v) in
      let e : i ≡ length (take at d ++ v) + k = omega (arith, seam) in
      let whole : at + length v + k ≡ i = omega arith in
      ap (λ (n : ℕ). get_or (put d at v) n 0) e
      ∙ get_or-append-add (take at d ++ v) (drop (at + length v) d) k 0
      ∙ get_or-drop (at + length v) d k 0
      ∙ ap (λ (n : ℕ). get_or d n 0) whole

  -- what was stored is read back
  pub part-put-same : (k : ℕ) → length v ≡ k → part (put d at v) at k ≡ v
  part-put-same k e =
      rw (append_assoc, drop_at (take at d) (v ++ drop (at + length v) d) at before) (take_at v _ k e)

  -- a part of what was stored
  pub part-put_inside : (i m : ℕ) → i + m ≤ length v → part (put d at v) (at + i) m ≡ part v i m
  part-put_inside i m h =
      part_same _ (at + i) v i m (omega (arith, length-put)) h
      (λ j c. ap (λ (n : ℕ). get_or (put d at v) n 0) (add_assoc at i j) ∙ get_or-put_inside (i + j) (omega arith))

  -- a part that ends before the run, or begins after it, is as it was
  pub part-put_before : (i m : ℕ) → i + m ≤ at → part (put d at v) i m ≡ part d i m
  part-put_before i m h =
      part_ext _ _ i m (omega (arith, length-put)) (omega arith) (λ j c. get_or-put_before (i + j) (omega arith))

  pub part-put-after : (i m : ℕ) → at + length v ≤ i → i + m ≤ length d → part (put d at v) i m ≡ part d i m
  part-put-after i m h b =
      part_ext _ _ i m (omega (arith, length-put)) (omega arith) (λ j c. get_or-put_after (i + j) (omega arith))

  -- so is a number
  pub be16-put_before : (i : ℕ) → i + 1 < at → be16 (put d at v) i ≡ be16 d i
  be16-put_before i h = omega (arith, get_or-put_before i (omega arith), get_or-put_before (i + 1) h)

  pub be16-put-after : (i : ℕ) → at + length v ≤ i → be16 (put d at v) i ≡ be16 d i
  be16-put-after i h = omega (arith, get_or-put_after i h, get_or-put_after (i + 1) (omega arith))

  -- a number that is read out of what was stored
  byte_inside : (i k : ℕ) → i + k < length v → get_or (put d at v) (at + i + k) 0 ≡ get_or v (i + k) 0
  byte_inside i k h = ap (λ (n : ℕ). get_or (put d at v) n 0) (add_assoc at i k) ∙ get_or-put_inside (i + k) h

  pub be16-put_inside : (i : ℕ) → i + 1 < length v → be16 (put d at v) (at + i) ≡ be16 v i
  be16-put_inside i h = omega (arith, get_or-put_inside i (omega arith), byte_inside i 1 h)

  pub be24-put_inside : (i : ℕ) → i + 2 < length v → be24 (put d at v) (at + i) ≡ be24 v i
  be24-put_inside i h =
      omega (arith, get_or-put_inside i (omega arith), byte_inside i 1 (omega arith), byte_inside i 2 h)

-- ---- a number that was stored is read back; no bound is needed, since the highest byte is whatever is left

pub be16-bytes16 : (v : ℕ) → be16 (bytes16 v) 0 ≡ v
be16-bytes16 v = omega arith

pub be24-bytes24 : (v : ℕ) → be24 (bytes24 v) 0 ≡ v
be24-bytes24 v = omega arith

pub be16-put-same : (d : List ℕ) (at v : ℕ) → at + 1 < length d → be16 (put d at (bytes16 v)) at ≡ v
be16-put-same d at v h =
    ap (be16 (put d at (bytes16 v))) (sym (add-zero at))
    ∙ be16-put_inside d at (bytes16 v) (omega arith) 0 (omega arith)
    ∙ be16-bytes16 v

-- ---- one run after another

-- two runs side by side are one
pub put-append : (d : List ℕ) (at : ℕ) (v w : List ℕ) → at + length (v ++ w) ≤ length d
    → put d at (v ++ w) ≡ put (put d at v) (at + length v) w
put-append d at v w f =
    let l : length (v ++ w) ≡ length v + length w = length-append v w in
    let g : at + length v ≤ length d = omega arith in
    let e : at + length (v ++ w) ≡ at + length v + length w = omega arith in
    ap (λ (n : ℕ). take at d ++ (v ++ w) ++ drop n d) e
    ∙ ap (λ (t : List ℕ). t ++ drop (at + length v + length w) d) (sym (append_assoc (take at d) v w))
    ∙ ap (λ (t : List ℕ). t ++ w ++ drop (at + length v + length w) d)
    (sym (take_at (take at d ++ v) (drop (at + length v) d) (at + length v) (seam d at v g)))
    ∙ ap (λ (t : List ℕ). take (at + length v) (put d at v) ++ w ++ t)
    (sym (drop-put d at v g (at + length v + length w) (omega arith)))

-- what stands there already, stored, changes nothing
pub put_id : (d : List ℕ) (at k : ℕ) → at + k ≤ length d → put d at (part d at k) ≡ d
put_id d at k h =
    ap (λ (n : ℕ). take at d ++ part d at k ++ drop (at + n) d) (length_part d at k h)
    ∙ ap (λ (t : List ℕ). t ++ drop (at + k) d) (sym (take-add at k d))
    ∙ take-append-drop (at + k) d

-- a run as long as the list takes its place
pub put_whole : (d v : List ℕ) → length v ≡ length d → put d 0 v ≡ v
put_whole d v e = ap (λ (t : List ℕ). v ++ t) (drop_of_length-le d {i = 0 + length v} (omega arith)) ∙ append-nil v

-- an array that a run filled. Over any list z: an array's bytes written out would be dear to check.
pub in_place_of : (x z v : List ℕ) → length v ≡ length z → x ≡ put z 0 v → x ≡ v
in_place_of x z v e p = p ∙ put_whole z v e

-- an index is before a place or not
below : {P : Type 0} (i at : ℕ) → Dec (i < at) → (i < at → P) → (at ≤ i → P) → P
below i at (yes h) f g = f h
below i at (no n) f g = g (omega arith)

-- an index is before a run, in it or after it
by_place : {P : Type 0} (i at n : ℕ) → (i < at → P) → ((j : ℕ) → j < n → at + j ≡ i → P) → (at + n ≤ i → P) → P
by_place i at n f g h =
    below i at (dec_lt i at) f
    (λ a. below i (at + n) (dec_lt i (at + n)) (λ b. g (i - at) (omega arith) (omega arith)) h)

-- a run that is stored in two lists: where they agree, they agree after it
put_agree : (d e : List ℕ) (at : ℕ) (v : List ℕ) → at + length v ≤ length d → at + length v ≤ length e → (i : ℕ)
    → get_or d i 0 ≡ get_or e i 0 → get_or (put d at v) i 0 ≡ get_or (put e at v) i 0
put_agree d e at v f g i same =
    by_place i at (length v)
    (λ h. get_or-put_before d at v f i h ∙ same ∙ sym (get_or-put_before e at v g i h))
    (λ j b p.
    ap (λ (n : ℕ). get_or (put d at v) n 0) (sym p)
    ∙ get_or-put_inside d at v f j b
    ∙ sym (get_or-put_inside e at v g j b)
    ∙ ap (λ (n : ℕ). get_or (put e at v) n 0) p)
    (λ h. get_or-put_after d at v f i h ∙ same ∙ sym (get_or-put_after e at v g i h))

-- two runs that do not overlap may be stored in either order
pub put-put-apart : (d : List ℕ) (at : ℕ) (v : List ℕ) (to : ℕ) (w : List ℕ) → at + length v ≤ to → to + length w ≤ length d
    → put (put d at v) to w ≡ put (put d to w) at v
put-put-apart d at v to w h f =
    let fv : at + length v ≤ length d = omega arith in
    let lv : length (put d at v) ≡ length d = length-put d at v fv in
    let lw : length (put d to w) ≡ length d = length-put d to w f in
    let fw : to + length w ≤ length (put d at v) = omega arith in
    let gv : at + length v ≤ length (put d to w) = omega arith in
    ext_get_or 0 _ _ (length-put (put d at v) to w fw ∙ lv ∙ sym (length-put (put d to w) at v gv ∙ lw))
    (λ i _.
    by_place i to (length w)
    (λ b. get_or-put_before (put d at v) to w fw i b ∙ put_agree d (put d to w) at v fv gv i (sym (get_or-put_before d to w f i b)))
    (λ j b p.
    ap (λ (n : ℕ). get_or (put (put d at v) to w) n 0) (sym p)
    ∙ get_or-put_inside (put d at v) to w fw j b
    ∙ sym (get_or-put_inside d to w f j b)
    ∙ ap (λ (n : ℕ). get_or (put d to w) n 0) p
    ∙ sym (get_or-put_after (put d to w) at v gv i (omega arith)))
    (λ b. get_or-put_after (put d at v) to w fw i b ∙ put_agree d (put d to w) at v fv gv i (sym (get_or-put_after d to w f i b))))

-- one byte that is stored is a run of one
pub set-put : (l : List ℕ) (i v : ℕ) → i < length l → set l i v ≡ put l i (v ∷ [])
set-put l i v h = set_split l i v h ∙ rw (append_assoc, add-one)

-- a part is a first part and the rest of it
pub part-append : (s : List ℕ) (i n m : ℕ) → part s i (n + m) ≡ part s i n ++ part s (i + n) m
part-append s i n m = take-add n m (drop i s) ∙ ap (λ (l : List ℕ). take n (drop i s) ++ take m l) (drop-drop n i s)

-- the bytes of the number that two bytes are
pub bytes16-part : (s : List ℕ) (i : ℕ) → i + 2 ≤ length s → get_or s (i + 1) 0 < 256 → bytes16 (be16 s i) ≡ part s i 2
bytes16-part s i h b =
    let e : (get_or s i 0 * 256 + get_or s (i + 1) 0) / 256 ≡ get_or s i 0 = omega arith in
    let f : (get_or s i 0 * 256 + get_or s (i + 1) 0) % 256 ≡ get_or s (i + 1) 0 = omega arith in
    rw (e, f, drop-cons s i 0 (omega arith), drop-cons s (suc i) 0 (omega arith), add-one)
