-- What a store into one stream's places makes of that stream's record, and that it leaves every other stream's record and pieces.
-- Each law goes over the number of pieces and the stream's number, so that no stream has a case of its own. Assumes nothing.
use mathlib.Core.Path.{◌≡◌, sym, ap, ◌∙◌}
use mathlib.Core.Bool.{false, cond}
use mathlib.Core.List.{List, [], ◌∷◌, ◌++◌}
use mathlib.Core.Logic.{inl, inr}
use Prim.{Dec, yes, no}
use Prim.Native.Nat.{ℕ, suc, ◌+◌, ◌*◌, ◌/◌, ◌%◌, ◌≤◌, ◌<◌}
use native.Mathlib.Decide.{dec_lt}
use native.Mathlib.Nat.{add-zero, mod-lt, mod-eq_of_lt, mod_self}
use native.Mathlib.Numerals.{add-one}
use native.Mathlib.Omega.{arith}
use lib.Dec.{eqb}
use lib.ListN.{length, get_or, take, drop}
use lib.Seq.{drop-drop}
use borrow.Author.Tests.{eqb-false}
use Rattle.wire.specs.Wire.{put}
use Rattle.wire.proofs.Runs.{length-put, drop-put, get_or-put_inside, part-put-same}
use Rattle.paper.specs.Streams.{pieces}
use Rattle.paper.specs.Packets.{chunks}
use Rattle.paper.specs.Reader.{placed}
use Rattle.lent.specs.Fitting.{mark_at}
use Rattle.lent.proofs.Same.{Same, same_trans, Outside, put_same, be16-same, chunks-same, chunks_snoc}
use Rattle.shelf.specs.Layout.{streams, record_at, place_at, runs_at, gather_at, piece_at, reader_bytes}
use Rattle.shelf.specs.View.{last_in, place_in, track_in}
use Rattle.shelf.specs.Received.{record_of, recorded_on}

-- ---- one more piece

-- a body stored behind p pieces
pub piece_snoc : (s : List ℕ) (g p : ℕ) (x : List ℕ) → length x ≡ 118 → g + 118 * p + 118 ≤ length s
    → chunks 118 (suc p) (drop g (put s (g + 118 * p) x)) ≡ chunks 118 p (drop g s) ++ (x ∷ [])
piece_snoc s g p x e h =
    let at : ℕ = g + 118 * p in
    let fits : at + length x ≤ length s = omega arith in
    let l : length (put s at x) ≡ length s = length-put s at x fits in
    let before : chunks 118 p (drop g (put s at x)) ≡ chunks 118 p (drop g s) =
    chunks-same (put_same s at x fits g at (inr (omega arith))) 118 p g (omega arith) (omega arith) (omega arith) (omega arith) in
    let new : take 118 (drop (118 * p) (drop g (put s at x))) ≡ x =
    ap (take 118) (drop-drop (118 * p) g (put s at x)) ∙ part-put-same s at x fits 118 e in
    chunks_snoc 118 p (drop g (put s at x))
    ∙ ap (λ (n : ℕ). chunks 118 p (drop g (put s at x)) ++ (take 118 (drop n (drop g (put s at x))) ∷ [])) (let c : p * 118 ≡ 118 * p = omega arith in c)
    ∙ ap (λ (r : List (List ℕ)). r ++ (take 118 (drop (118 * p) (drop g (put s at x))) ∷ [])) before
    ∙ ap (λ (r : List ℕ). chunks 118 p (drop g s) ++ (r ∷ [])) new

-- ---- bytes that agree but for one stream's places

pub record Elsewhere (x s : List ℕ) (t : ℕ) : Type 0 where
  pub long : length x ≡ length s
  pub past : drop reader_bytes x ≡ drop reader_bytes s
  pub mark : Same x s mark_at (mark_at + 2)
  pub tracks : (u : ℕ) → u < streams → (t ≡ u → ⊥) → Same x s (record_at u) (record_at u + 4)
  pub gathered : (u : ℕ) → u < streams → (t ≡ u → ⊥) → Same x s (gather_at u) (gather_at u + 826)

pub elsewhere_trans : (x y s : List ℕ) (t : ℕ) → Elsewhere x y t → Elsewhere y s t → Elsewhere x s t
elsewhere_trans x y s t p q =
    record {
      long = p.long ∙ q.long;
      past = p.past ∙ q.past;
      mark = same_trans p.mark q.mark;
      tracks = λ u l n. same_trans (p.tracks u l n) (q.tracks u l n);
      gathered = λ u l n. same_trans (p.gathered u l n) (q.gathered u l n);
    }

module _ (s : List ℕ) (w : reader_bytes ≤ length s) (t : ℕ) (l : t < streams) where
  -- a record stored
  pub record_elsewhere : (last place mark : ℕ) → Elsewhere (recorded_on s t last place mark) s t
  unfolding recorded_on
  record_elsewhere last place mark =
      record {
        long = length-put s (record_at t) v fits;
        past = drop-put s (record_at t) v fits reader_bytes (omega arith);
        mark = put_same s (record_at t) v fits _ _ (inr (omega arith));
        tracks = λ u k n. put_same s (record_at t) v fits _ _ (beside u (dec_lt t u) n);
        gathered = λ u k n. put_same s (record_at t) v fits _ _ (inl (omega arith));
      }
    where
      v : List ℕ
      v = record_of last place mark

      fits : record_at t + length v ≤ length s
      fits = omega arith

      beside : (u : ℕ) → Dec (t < u) → (t ≡ u → ⊥) → Outside (record_at t) v (record_at u) (record_at u + 4)
      beside u (yes h) n = inl (omega arith)
      beside u (no h) n = inr (omega arith)

  -- a body stored
  pub body-elsewhere : (place : ℕ) (x : List ℕ) → place < 7 → length x ≡ 118 → Elsewhere (put s (piece_at t place) x) s t
  body-elsewhere place x h e =
      let fits : piece_at t place + length x ≤ length s = omega arith in
      record {
        long = length-put s (piece_at t place) x fits;
        past = drop-put s (piece_at t place) x fits reader_bytes (omega arith);
        mark = put_same s (piece_at t place) x fits _ _ (inr (omega arith));
        tracks = λ u k n. put_same s (piece_at t place) x fits _ _ (inr (omega arith));
        gathered = λ u k n. put_same s (piece_at t place) x fits _ _ (beside u (dec_lt t u) n);
      }
    where
      beside : (u : ℕ) → Dec (t < u) → (t ≡ u → ⊥) → Outside (piece_at t place) x (gather_at u) (gather_at u + 826)
      beside u (yes a) n = inl (omega arith)
      beside u (no a) n = inr (omega arith)

  -- the record that is stored is read back
  pub record_track : (last place mark : ℕ) → last < 4096 → place < pieces t → pieces t ≤ 7
      → track_in (recorded_on s t last place mark) t
      ≡ record {
        last = last;
        place = place;
        running = eqb mark 1;
        gathered = cond (eqb mark 1) (chunks 118 (suc place) (drop (gather_at t) s)) [];
      }
  unfolding recorded_on track_in
  record_track last place mark a b h =
      let v : List ℕ = record_of last place mark in
      let x : List ℕ = put s (record_at t) v in
      let fits : record_at t + length v ≤ length s = omega arith in
      let long : length x ≡ length s = length-put s (record_at t) v fits in
      let first : get_or x (record_at t) 0 ≡ last / 256 =
      ap (λ (n : ℕ). get_or x n 0) (sym (add-zero (record_at t))) ∙ get_or-put_inside s (record_at t) v fits 0 (omega arith) in
      let second : get_or x (record_at t + 1) 0 ≡ last % 256 = get_or-put_inside s (record_at t) v fits 1 (omega arith) in
      let whole : last_in x t ≡ last = omega (arith, first, second) in
      let third : place_in x t ≡ place =
      ap (λ (n : ℕ). n % pieces t) (get_or-put_inside s (record_at t) v fits 2 (omega arith)) ∙ mod-eq_of_lt b in
      let fourth : get_or x (runs_at t) 0 ≡ mark = get_or-put_inside s (record_at t) v fits 3 (omega arith) in
      let bodies : chunks 118 (suc (place_in x t)) (drop (gather_at t) x) ≡ chunks 118 (suc place) (drop (gather_at t) s) =
      ap (λ (n : ℕ). chunks 118 (suc n) (drop (gather_at t) x)) third
      ∙ chunks-same (put_same s (record_at t) v fits (gather_at t) (gather_at t + 826) (inl (omega arith))) 118 (suc place) (gather_at t)
      (omega arith) (omega arith) (omega arith) (omega arith) in
      λ i.
      record {
        last = whole i;
        place = third i;
        running = eqb (fourth i) 1;
        gathered = cond (eqb (fourth i) 1) (bodies i) [];
      }

-- ---- a stream whose places agree

pub track_same : (x s : List ℕ) → length x ≡ length s → reader_bytes ≤ length s → (u : ℕ) → 0 < pieces u
    → Same x s (record_at u) (record_at u + 4) → u < streams → pieces u ≤ 7 → Same x s (gather_at u) (gather_at u + 826)
    → track_in x u ≡ track_in s u
unfolding track_in
track_same x s long w u some p l k q =
    let last = ap (λ (n : ℕ). n % 4096) (be16-same p (record_at u) (omega arith) (omega arith)) in
    let place = ap (λ (n : ℕ). n % pieces u) (p.byte (place_at u) (omega arith) (omega arith)) in
    let runs = p.byte (runs_at u) (omega arith) (omega arith) in
    let few : place_in s u < 7 = omega (arith, mod-lt (get_or s (place_at u) 0) some) in
    let bodies : chunks 118 (suc (place_in x u)) (drop (gather_at u) x) ≡ chunks 118 (suc (place_in s u)) (drop (gather_at u) s) =
    ap (λ (n : ℕ). chunks 118 (suc n) (drop (gather_at u) x)) place
    ∙ chunks-same q 118 (suc (place_in s u)) (gather_at u) (omega arith) (omega arith) (omega arith) (omega arith) in
    λ i. record { last = last i; place = place i; running = eqb (runs i) 1; gathered = cond (eqb (runs i) 1) (bodies i) [] }

-- ---- the next place

-- "at d = 1 a running gathering goes on": it goes on at the next place, since place 0 starts anew
pub follows : (p k : ℕ) → p < k → eqb (placed k p 1) 0 ≡ false → placed k p 1 ≡ suc p
follows p k h n = at (dec_lt (p + 1) k)
  where
    at : Dec (p + 1 < k) → placed k p 1 ≡ suc p
    at (yes a) = mod-eq_of_lt a ∙ add-one p
    at (no a) =
        let e : p + 1 ≡ k = omega arith in
        absurd (eqb-false (placed k p 1) 0 n (ap (λ (m : ℕ). m % k) e ∙ mod_self k))
