-- The stores of this crate as the paper's queue: what queuing a packet, dropping the first piece and clearing streams do to the
-- controller that the lent bytes hold. Assumes nothing.
use mathlib.Core.Path.{◌≡◌, refl, sym, ap, ◌∙◌, fun_ext}
use mathlib.Core.Bool.{Bool, true, false, cond}
use mathlib.Core.List.{List, [], ◌∷◌, ◌++◌, append-nil, append_assoc}
use mathlib.Core.Logic.{◌⊎◌, inl, inr, ⊎_elim}
use Prim.{Dec, yes, no}
use Prim.Native.Nat.{ℕ, zero, suc, ◌+◌, ◌-◌, ◌*◌, ◌%◌, ◌≤◌, ◌<◌}
use native.Mathlib.Nat.{add_assoc, add-zero}
use native.Mathlib.Decide.{dec_lt}
use native.Mathlib.Omega.{arith}
use lib.Dec.{eqb}
use lib.ListN.{length, take, drop, get_or, length-drop}
use lib.Seq.{length-take-le}
use borrow.Author.Tests.{eqb-true, eqb-false, lt-ltb}
use Rattle.wire.specs.Wire.{be16, bytes16, part, put}
use Rattle.wire.proofs.Runs.{length_part, length-put, get_or-put_inside, be16-put-same}
use Rattle.paper.specs.Commands.{names}
use Rattle.paper.specs.Packets.{chunks}
use Rattle.paper.specs.Queue.{Piece, piece, wrap, numbered, after, without}
use Rattle.paper.specs.Controller.{nothing_open, with_queue, with_streams}
use Rattle.paper.specs.Acts.{cleared}
use Rattle.paper.specs.Queue as paper
use Rattle.state.specs.Layout.{first_at, waiting_at, housed_at, streams, count_at, open_at, ring_at, slots_at, slot_at, state_bytes}
use Rattle.state.specs.View.{open_in, count_in, piece_in, pieces_in, view, capped, first_in, waiting_in}
use Rattle.state.specs.Range.{Whole}
use Rattle.lent.proofs.Same.{Same, same_refl, same_trans, same-within, Outside, put_same}
use Rattle.state.proofs.Apart.{count_where, counts_same, shut_open, opened-same, open_where, pieces-same, pieces-apart, pieces-apart-slot, streams-same}
use Rattle.state.proofs.Numbers.{capped_most, capped-low}
use Rattle.state.proofs.Pieces.{length-pieces, pieces_round, pieces_snoc, piece_bytes, piece_stored, piece-of}
use Rattle.machine.specs.Stores.{slot, laid, queued_on, dropped_on, Swept, sweep, shut, cleared_on}

-- ---- pieces of a packet, laid into slots

module _ (x : List ℕ) (k : ℕ) (h : 118 * suc k ≤ length x) where
  -- the first piece, and what is left
  length-first : length (take 118 x) ≡ 118
  length-first = length-take-le 118 x (omega arith)

  length-left : 118 * k ≤ length (drop 118 x)
  length-left = omega (arith, length-drop 118 x)

-- only slots change
pub laid_rest : (s : List ℕ) (i n t k : ℕ) (x : List ℕ) → state_bytes ≤ length s → 118 * k ≤ length x
    → (length (laid s i n t k x) ≡ length s) × Same (laid s i n t k x) s 0 slots_at
unfolding laid
laid_rest s i n t zero x w h = (refl, same_refl s 0 slots_at)
laid_rest s i n t (suc k) x w h =
    let at : ℕ = slot_at (i % 48) in
    let v : List ℕ = slot t n (take 118 x) in
    let l = length-first x k h in
    let fits : at + length v ≤ length s = omega arith in
    let kept = length-put s at v fits in
    let rest = laid_rest (put s at v) (i + 1) (n + 1) t k (drop 118 x) (omega arith) (length-left x k h) in
    (rest.0 ∙ kept, same_trans rest.1 (put_same s at v fits 0 slots_at (inr (omega arith))))

-- behind m pieces that wait, k more, for which there is room
pub laid-pieces : (s : List ℕ) (a m n t k : ℕ) (x : List ℕ) → state_bytes ≤ length s → 118 * k ≤ length x → t < 16 → m + k ≤ 48
    → pieces_in (laid s (a + m) n t k x) a (m + k) ≡ pieces_in s a m ++ numbered wrap t (n % 4096) (chunks 118 k x)
unfolding laid numbered
laid-pieces s a m n t zero x w h l room = rw (add-zero m, append-nil)
laid-pieces s a m n t (suc k) x w h l room =
    let j : ℕ = (a + m) % 48 in
    let b : List ℕ = take 118 x in
    let v : List ℕ = slot t n b in
    let lb = length-first x k h in
    let lv : length v ≡ 120 = omega arith in
    let fits : slot_at j + length v ≤ length s = omega arith in
    let kept = length-put s (slot_at j) v fits in
    let r : List ℕ = put s (slot_at j) v in
    let rest = laid-pieces r a (m + 1) (n + 1) t k (drop 118 x) (omega arith) (length-left x k h) l (omega arith) in
    let here : piece_in r j ≡ piece t (n % 4096) b = piece_stored s j v (omega arith) lv w ∙ piece-of t n b l lb in
    let before : pieces_in r a m ≡ pieces_in s a m = pieces-apart-slot s j v (omega arith) lv w a m (λ p c e. omega arith) in
    let next : (n + 1) % 4096 ≡ wrap (n % 4096) = omega arith in
    let m1 : m + suc k ≡ m + 1 + k = omega arith in
    rw (m1, add_assoc a m 1, rest, pieces_snoc r a m, here, before, next, append_assoc)

-- the count that follows
pub after-chunks : (n k : ℕ) (x : List ℕ) → after wrap (n % 4096) (chunks 118 k x) ≡ (n + k) % 4096
unfolding after
after-chunks n zero x = rw (add-zero n)
after-chunks n (suc k) x =
    let next : wrap (n % 4096) ≡ (n + 1) % 4096 = omega arith in
    let e : n + 1 + k ≡ n + suc k = omega arith in
    ap (λ (m : ℕ). after wrap m (chunks 118 k (drop 118 x))) next
    ∙ after-chunks (n + 1) k (drop 118 x)
    ∙ ap (λ (m : ℕ). m % 4096) e

-- ---- a packet joins the queue

-- a known stream's count
pub count_known : (s : List ℕ) (t : ℕ) → t < streams → count_in s t ≡ be16 s (count_at t) % 4096
unfolding count_in
count_known s t l = rw (lt-ltb t streams l)

-- what is stored where
record Queued (s : List ℕ) (t k : ℕ) (x r : List ℕ) : Type 0 where
  kept : length r ≡ length s
  below : Same r s 0 waiting_at
  waits : waiting_in r ≡ waiting_in s + k
  between : Same r s housed_at (count_at t)
  counted : be16 r (count_at t) ≡ (be16 s (count_at t) + k) % 65536
  above : Same r s (count_at t + 2) slots_at
  joined : (i n : ℕ) → pieces_in r i n ≡ pieces_in (laid s (first_in s + waiting_in s) (be16 s (count_at t)) t k x) i n

module _ (s : List ℕ) (t k : ℕ) (x : List ℕ) (fit : Whole s) (known : t < streams) (room : waiting_in s + k ≤ 48)
    (long : 118 * k ≤ length x) where
  queued-bytes : Queued s t k x (queued_on s t k x)
  unfolding queued_on
  queued-bytes =
      let n : ℕ = be16 s (count_at t) in
      let l : List ℕ = laid s (first_in s + waiting_in s) n t k x in
      let more : ℕ = waiting_in s + k in
      let rest = laid_rest s (first_in s + waiting_in s) n t k x fit long in
      let w : List ℕ = put l waiting_at (more ∷ []) in
      let c : List ℕ = bytes16 ((n + k) % 65536) in
      let fw : waiting_at + 1 ≤ length l = omega arith in
      let lw = length-put l waiting_at (more ∷ []) fw in
      let fc : count_at t + 2 ≤ length w = omega arith in
      let lc = length-put w (count_at t) c fc in
      let under : (lo hi : ℕ) → hi ≤ slots_at → Outside waiting_at (more ∷ []) lo hi → Outside (count_at t) c lo hi
      → Same (put w (count_at t) c) s lo hi =
      λ lo hi top a b.
      same_trans (put_same w (count_at t) c fc lo hi b)
      (same_trans (put_same l waiting_at (more ∷ []) fw lo hi a) (same-within lo hi rest.1 (omega arith) top)) in
      record {
        kept = lc ∙ lw ∙ rest.0;
        below = under 0 waiting_at (omega arith) (inr (omega arith)) (inr (omega arith));
        waits =
            ap (capped 48)
            ((put_same w (count_at t) c fc waiting_at housed_at (inr (omega arith))).byte waiting_at (omega arith) (omega arith)
            ∙ get_or-put_inside l waiting_at (more ∷ []) fw 0 (omega arith))
            ∙ capped-low 48 more room;
        between = under housed_at (count_at t) (omega arith) (inl (omega arith)) (inr (omega arith));
        counted = be16-put-same w (count_at t) ((n + k) % 65536) (omega arith);
        above = under (count_at t + 2) slots_at (omega arith) (inl (omega arith)) (inl (omega arith));
        joined =
            λ i m.
            pieces-apart w (count_at t) c fc (omega arith) (omega arith) i m
            ∙ pieces-apart l waiting_at (more ∷ []) fw (omega arith) (omega arith) i m;
      }

  -- the queue: the packet's pieces stand behind those that waited
  pub queued-queue :
      pieces_in (queued_on s t k x) (first_in (queued_on s t k x)) (waiting_in (queued_on s t k x))
      ≡ (view s).streams.queue ++ numbered wrap t (count_in s t) (chunks 118 k x)
  unfolding view count_in
  queued-queue =
      let q = queued-bytes in
      let first : first_in (queued_on s t k x) ≡ first_in s = ap (λ (n : ℕ). n % 48) (q.below.byte first_at (omega arith) (omega arith)) in
      rw (first, q.waits, q.joined, lt-ltb t streams known)
      (laid-pieces s (first_in s) (waiting_in s) (be16 s (count_at t)) t k x fit long (omega arith) room)

  -- the stream's count goes on, and no other
  pub queued-count : (u : ℕ)
      → count_in (queued_on s t k x) u ≡ paper.replaced (view s).streams.counts t (after wrap ((view s).streams.counts t) (chunks 118 k x)) u
  unfolding view paper.replaced
  queued-count u = at (eqb t u) refl
    where
      beside : u < streams → Dec (u < t) → (t ≡ u → ⊥) → Same (queued_on s t k x) s (count_at u) (count_at u + 2)
      beside l (yes h) d = same-within (count_at u) (count_at u + 2) queued-bytes.between (omega arith) (omega arith)
      beside l (no h) d = same-within (count_at u) (count_at u + 2) queued-bytes.above (omega arith) (omega arith)

      at : (b : Bool) → eqb t u ≡ b
          → count_in (queued_on s t k x) u ≡ cond b (after wrap (count_in s t) (chunks 118 k x)) (count_in s u)
      at true e =
          let n : ℕ = be16 s (count_at t) in
          let low : (n + k) % 65536 % 4096 ≡ (n + k) % 4096 = omega arith in
          ap (count_in (queued_on s t k x)) (sym (eqb-true t u e))
          ∙ count_known (queued_on s t k x) t known
          ∙ ap (λ (m : ℕ). m % 4096) queued-bytes.counted
          ∙ low
          ∙ sym (after-chunks n k x)
          ∙ ap (λ (m : ℕ). after wrap m (chunks 118 k x)) (sym (count_known s t known))
      at false e =
          count_where (queued_on s t k x) s u (λ l. beside l (dec_lt u t) (eqb-false t u e))

  pub queued-counts :
      count_in (queued_on s t k x) ≡ paper.replaced (view s).streams.counts t (after wrap ((view s).streams.counts t) (chunks 118 k x))
  queued-counts = fun_ext queued-count

  -- all of it
  pub queued-view :
      view (queued_on s t k x)
      ≡ with_streams (view s)
      (record {
        opened = (view s).streams.opened;
        counts = paper.replaced (view s).streams.counts t (after wrap ((view s).streams.counts t) (chunks 118 k x));
        queue = (view s).streams.queue ++ numbered wrap t ((view s).streams.counts t) (chunks 118 k x);
      })
  unfolding view
  queued-view =
      let q = queued-bytes in
      let r : List ℕ = queued_on s t k x in
      let opened : open_in r ≡ open_in s =
      opened-same r s (omega (arith, q.kept)) fit (same-within (open_at 0) ring_at q.above (omega arith) (omega arith)) in
      streams-same r s fit (omega (arith, q.kept)) (same-within 0 first_at q.below (omega arith) (omega arith))
      (same-within housed_at (count_at 0) q.between (omega arith) (omega arith))
      (same-within ring_at slots_at q.above (omega arith) (omega arith))
      ∙ (λ i. with_streams (view s) (record { opened = opened i; counts = queued-counts i; queue = queued-queue i }))

-- ---- the first piece leaves

pub queue-length : (s : List ℕ) → length (view s).streams.queue ≡ waiting_in s
unfolding view
queue-length s = length-pieces s (first_in s) (waiting_in s)

-- where a piece waits, it stands in the first slot, and the others behind it
pub waits_first : (s : List ℕ) → Whole s → 0 < waiting_in s
    → (view s).streams.queue ≡ piece_in s (first_in s) ∷ pieces_in s (first_in s + 1) (waiting_in s - 1)
unfolding view pieces_in
waits_first s fit h =
    let e : waiting_in s ≡ suc (waiting_in s - 1) = omega arith in
    let f : first_in s % 48 ≡ first_in s = omega arith in
    ap (pieces_in s (first_in s)) e ∙ rw f

-- a queue that has a first piece has one that waits
pub some_waits : (s : List ℕ) (p : Piece (List ℕ)) (rest : List (Piece (List ℕ))) → (view s).streams.queue ≡ p ∷ rest
    → 0 < waiting_in s
some_waits s p rest e =
    let l : waiting_in s ≡ suc (length rest) = sym (queue-length s) ∙ ap length e in
    omega arith

module _ (s : List ℕ) (fit : Whole s) where
  -- the two bytes
  dropped_first : first_in (dropped_on s) ≡ (first_in s + 1) % 48
  unfolding dropped_on
  dropped_first = omega (arith, get_or-put_inside s first_at ((first_in s + 1) % 48 ∷ (waiting_in s - 1) ∷ []) (omega arith) 0 (omega arith))

  dropped_waits : waiting_in (dropped_on s) ≡ waiting_in s - 1
  unfolding dropped_on
  dropped_waits =
      ap (capped 48) (get_or-put_inside s first_at ((first_in s + 1) % 48 ∷ (waiting_in s - 1) ∷ []) (omega arith) 1 (omega arith))
      ∙ capped-low 48 (waiting_in s - 1) (omega (arith, capped_most 48 (get_or s waiting_at 0)))

  dropped_whole : length (dropped_on s) ≡ length s
  unfolding dropped_on
  dropped_whole = length-put s first_at (_ ∷ _ ∷ []) (omega arith)

  dropped_same : (lo hi : ℕ) → (housed_at ≤ lo) ⊎ (hi ≤ first_at) → Same (dropped_on s) s lo hi
  unfolding dropped_on
  dropped_same lo hi = put_same s first_at (_ ∷ _ ∷ []) (omega arith) lo hi

  dropped_pieces : (i n : ℕ) → pieces_in (dropped_on s) i n ≡ pieces_in s i n
  unfolding dropped_on
  dropped_pieces = pieces-apart s first_at (_ ∷ _ ∷ []) (omega arith) fit (omega arith)

  pub dropped_view : (p : Piece (List ℕ)) (rest : List (Piece (List ℕ))) → (view s).streams.queue ≡ p ∷ rest
      → view (dropped_on s) ≡ with_streams (view s) (with_queue (view s).streams rest)
  unfolding view
  dropped_view p rest e =
      let r : List ℕ = dropped_on s in
      let f = waits_first s fit (some_waits s p rest e) in
      let left : pieces_in s (first_in s + 1) (waiting_in s - 1) ≡ rest = cc in
      let round =
      pieces_round s ((first_in s + 1) % 48) (first_in s + 1) (waiting_in s - 1) (omega arith) in
      let queue : pieces_in r (first_in r) (waiting_in r) ≡ rest =
      rw (dropped_first, dropped_waits, dropped_pieces) (round ∙ left) in
      let opened : open_in r ≡ open_in s = opened-same r s (omega (arith, dropped_whole)) fit (dropped_same (open_at 0) ring_at (inl (omega arith))) in
      let counts : count_in r ≡ count_in s = counts_same r s (dropped_same (count_at 0) (open_at 0) (inl (omega arith))) in
      streams-same r s fit (omega (arith, dropped_whole)) (dropped_same 0 first_at (inr (omega arith)))
      (dropped_same housed_at (count_at 0) (inl (omega arith))) (dropped_same ring_at slots_at (inl (omega arith)))
      ∙ (λ i. with_streams (view s) (record { opened = opened i; counts = counts i; queue = queue i }))

-- ---- pieces of named streams go

-- a piece that was moved to another slot
piece-moved : (s : List ℕ) (to from : ℕ) → to < 48 → from < 48 → state_bytes ≤ length s
    → piece_in (put s (slot_at to) (part s (slot_at from) 120)) to ≡ piece_in s from
piece-moved s to from a b w =
    piece_stored s to (part s (slot_at from) 120) a (length_part s (slot_at from) 120 (omega arith)) w ∙ piece_bytes s from b w

-- what the sweep leaves: slots alone change, no more pieces wait, and those that do are the kept ones, in order
record Sweeps (mask first : ℕ) (s : List ℕ) (i j n : ℕ) (r : Swept) : Type 0 where
  whole : length r.bytes ≡ length s
  below : Same r.bytes s 0 slots_at
  fewer : r.kept ≤ j + n
  pieces :
      pieces_in r.bytes first r.kept ≡ pieces_in s first j ++ without (names mask) (pieces_in s (first + i) n)

-- one piece more, of a named stream or not
module _ (mask first : ℕ) (s : List ℕ) (i j n : ℕ) (w : state_bytes ≤ length s) (le : j ≤ i) (room : i + suc n ≤ 48) where
  sweeps_goes : (r : Swept) → names mask (be16 s (slot_at ((first + i) % 48)) % 16) ≡ true → Sweeps mask first s (i + 1) j n r
      → Sweeps mask first s i j (suc n) r
  unfolding without pieces_in
  sweeps_goes r named q =
      record {
        whole = q.whole;
        below = q.below;
        fewer = omega (arith, q.fewer);
        pieces = q.pieces ∙ rw (named, add_assoc first i 1);
      }

  sweeps_stays : (r : Swept) → names mask (be16 s (slot_at ((first + i) % 48)) % 16) ≡ false
      → Sweeps mask first (put s (slot_at ((first + j) % 48)) (part s (slot_at ((first + i) % 48)) 120)) (i + 1) (j + 1) n r
      → Sweeps mask first s i j (suc n) r
  unfolding without pieces_in
  sweeps_stays r named q =
      let from : ℕ = (first + i) % 48 in
      let to : ℕ = (first + j) % 48 in
      let v : List ℕ = part s (slot_at from) 120 in
      let m : List ℕ = put s (slot_at to) v in
      let lv : length v ≡ 120 = length_part s (slot_at from) 120 (omega arith) in
      let fits : slot_at to + length v ≤ length s = omega arith in
      let here : piece_in m to ≡ piece_in s from = piece-moved s to from (omega arith) (omega arith) w in
      let before : pieces_in m first j ≡ pieces_in s first j =
      pieces-apart-slot s to v (omega arith) lv w first j (λ k c e. omega arith) in
      let behind : pieces_in m (first + (i + 1)) n ≡ pieces_in s (first + (i + 1)) n =
      pieces-apart-slot s to v (omega arith) lv w (first + (i + 1)) n (λ k c e. omega arith) in
      record {
        whole = q.whole ∙ length-put s (slot_at to) v fits;
        below = same_trans q.below (put_same s (slot_at to) v fits 0 slots_at (inr (omega arith)));
        fewer = omega (arith, q.fewer);
        pieces =
            q.pieces ∙ rw (named, pieces_snoc m first j, here, before, behind, add_assoc first i 1, append_assoc);
      }

  sweeps_more : (a b : Swept) → Sweeps mask first s (i + 1) j n a
      → Sweeps mask first (put s (slot_at ((first + j) % 48)) (part s (slot_at ((first + i) % 48)) 120)) (i + 1) (j + 1) n b
      → Sweeps mask first s i j (suc n) (cond (names mask (be16 s (slot_at ((first + i) % 48)) % 16)) a b)
  sweeps_more a b p q = at (names mask (be16 s (slot_at ((first + i) % 48)) % 16)) refl
    where
      at : (c : Bool) → names mask (be16 s (slot_at ((first + i) % 48)) % 16) ≡ c
          → Sweeps mask first s i j (suc n) (cond c a b)
      at true e = sweeps_goes a e p
      at false e = sweeps_stays b e q

sweeps : (mask first : ℕ) (s : List ℕ) (i j n : ℕ) → state_bytes ≤ length s → j ≤ i → i + n ≤ 48
    → Sweeps mask first s i j n (sweep mask first s i j n)
unfolding sweep without pieces_in
sweeps mask first s i j zero w le room =
    record {
      whole = refl;
      below = same_refl s 0 slots_at;
      fewer = omega arith;
      pieces = sym (append-nil (pieces_in s first j));
    }
sweeps mask first s i j (suc n) w le room =
    let v : List ℕ = part s (slot_at ((first + i) % 48)) 120 in
    let lv : length v ≡ 120 = length_part s (slot_at ((first + i) % 48)) 120 (omega arith) in
    let kept = length-put s (slot_at ((first + j) % 48)) v (omega arith) in
    sweeps_more mask first s i j n w le room _ _ (sweeps mask first s (i + 1) j n w (omega arith) (omega arith))
    (sweeps mask first (put s (slot_at ((first + j) % 48)) v) (i + 1) (j + 1) n (omega arith) (omega arith) (omega arith))

-- ---- open packets of named streams go

differ : true ≡ false → ⊥
differ h = let z : ◌≡◌ {A = ℕ} 0 1 = cc in omega arith

-- what holds of either outcome of a test holds of the test's
by_test : (P : List ℕ → Type 0) (c : Bool) (a b : List ℕ) → (c ≡ true → P a) → (c ≡ false → P b) → P (cond c a b)
by_test P true a b p q = p refl
by_test P false a b p q = q refl

-- the number of samples is 0 for named streams below n, and nothing else changes
record Shuts (mask : ℕ) (s : List ℕ) (n : ℕ) (r : List ℕ) : Type 0 where
  whole : length r ≡ length s
  rest : (lo hi : ℕ) → (hi ≤ open_at 0) ⊎ (ring_at ≤ lo) → Same r s lo hi
  other : (t : ℕ) → names mask t ≡ false → Same r s (open_at t) (open_at t + 150)
  gone : (t : ℕ) → t < n → names mask t ≡ true → get_or r (open_at t) 0 ≡ 0

module _ (mask : ℕ) (s : List ℕ) (w : state_bytes ≤ length s) (n : ℕ) (l : n < streams) (q : List ℕ) (h : Shuts mask s n q) where
  fits : open_at n + 1 ≤ length q
  fits = omega (arith, h.whole)

  -- a stream is not the one whose packet goes, or it is
  aside : (t : ℕ) → Dec (t < n) → (t ≡ n → ⊥) → Outside (open_at n) (0 ∷ []) (open_at t) (open_at t + 150)
  aside t (yes b) d = inr (omega arith)
  aside t (no b) d = inl (omega arith)

  at_last : {P : Type 0} (t : ℕ) → Dec (t < n) → t < suc n → (t < n → P) → (t ≡ n → P) → P
  at_last t (yes b) c f g = f b
  at_last t (no b) c f g = g (omega arith)

  shuts_goes : names mask n ≡ true → Shuts mask s (suc n) (put q (open_at n) (0 ∷ []))
  shuts_goes named =
      record {
        whole = length-put q (open_at n) (0 ∷ []) fits ∙ h.whole;
        rest =
            λ lo hi o.
            same_trans
            (put_same q (open_at n) (0 ∷ []) fits lo hi (⊎_elim (λ a. inr (omega arith)) (λ a. inl (omega arith)) o))
            (h.rest lo hi o);
        other =
            λ t e.
            same_trans
            (put_same q (open_at n) (0 ∷ []) fits (open_at t) (open_at t + 150)
            (aside t (dec_lt t n) (λ d. absurd (differ (sym named ∙ ap (names mask) (sym d) ∙ e)))))
            (h.other t e);
        gone =
            λ t b e.
            at_last t (dec_lt t n) b
            (λ c.
            (put_same q (open_at n) (0 ∷ []) fits (open_at t) (open_at t + 1) (inr (omega arith))).byte (open_at t) (omega arith)
            (omega arith)
            ∙ h.gone t c e)
            (λ d.
            ap (λ (m : ℕ). get_or (put q (open_at n) (0 ∷ [])) m 0) (ap open_at d ∙ sym (add-zero (open_at n)))
            ∙ get_or-put_inside q (open_at n) (0 ∷ []) fits 0 (omega arith));
      }

  shuts_stays : names mask n ≡ false → Shuts mask s (suc n) q
  shuts_stays named =
      record {
        whole = h.whole;
        rest = h.rest;
        other = h.other;
        gone =
            λ t b e.
            at_last t (dec_lt t n) b (λ c. h.gone t c e)
            (λ d. absurd (differ (sym e ∙ ap (names mask) d ∙ named)));
      }

shuts : (mask : ℕ) (s : List ℕ) → state_bytes ≤ length s → (n : ℕ) → n ≤ streams → Shuts mask s n (shut mask s n)
unfolding shut
shuts mask s w zero l =
    record { whole = refl; rest = λ lo hi o. same_refl s lo hi; other = λ t e. same_refl s _ _; gone = λ t b e. omega arith }
shuts mask s w (suc n) l =
    let h = shuts mask s w n (omega arith) in
    let b : n < streams = omega arith in
    by_test (Shuts mask s (suc n)) (names mask n) _ _ (shuts_goes mask s w n b (shut mask s n) h)
    (shuts_stays mask s w n b (shut mask s n) h)

-- ---- clearing

-- what is stored where
record Clears (s : List ℕ) (mask : ℕ) (r : List ℕ) : Type 0 where
  kept : length r ≡ length s
  under : (lo hi : ℕ) → hi ≤ waiting_at → Same r s lo hi
  between : Same r s housed_at (open_at 0)
  ring : Same r s ring_at slots_at
  queue :
      pieces_in r (first_in s) (waiting_in r)
      ≡ without (names mask) (pieces_in s (first_in s) (waiting_in s))
  other : (t : ℕ) → t < streams → names mask t ≡ false → Same r s (open_at t) (open_at t + 150)
  gone : (t : ℕ) → t < streams → names mask t ≡ true → get_or r (open_at t) 0 ≡ 0

module _ (s : List ℕ) (mask : ℕ) (fit : Whole s) where
  clears : Clears s mask (cleared_on s mask)
  unfolding cleared_on pieces_in
  clears =
      let first : ℕ = first_in s in
      let waiting : ℕ = waiting_in s in
      let most : waiting ≤ 48 = capped_most 48 (get_or s waiting_at 0) in
      let w : Swept = sweep mask first s 0 0 waiting in
      let q = sweeps mask first s 0 0 waiting fit (omega arith) (omega arith) in
      let b : List ℕ = put w.bytes waiting_at (w.kept ∷ []) in
      let fb : waiting_at + 1 ≤ length w.bytes = omega (arith, q.whole) in
      let lb = length-put w.bytes waiting_at (w.kept ∷ []) fb in
      let whole : state_bytes ≤ length b = omega (arith, q.whole) in
      let z = shuts mask b whole streams (omega arith) in
      let r : List ℕ = shut mask b streams in
      let stored : (lo hi : ℕ) → hi ≤ slots_at → Outside waiting_at (w.kept ∷ []) lo hi → Same b s lo hi =
      λ lo hi top o.
      same_trans (put_same w.bytes waiting_at (w.kept ∷ []) fb lo hi o)
      (same-within lo hi q.below (omega arith) top) in
      let waits : waiting_in r ≡ w.kept =
      ap (capped 48)
      ((z.rest waiting_at housed_at (inl (omega arith))).byte waiting_at (omega arith) (omega arith)
      ∙ get_or-put_inside w.bytes waiting_at (w.kept ∷ []) fb 0 (omega arith))
      ∙ capped-low 48 w.kept (omega (arith, q.fewer, most)) in
      let pieces : (i n : ℕ) → pieces_in r i n ≡ pieces_in w.bytes i n =
      λ i n.
      pieces-same r b (omega (arith, z.whole)) whole i n (λ k c. z.rest _ _ (inr (omega arith)))
      ∙ pieces-apart w.bytes waiting_at (w.kept ∷ []) fb (omega (arith, q.whole)) (omega arith) i n in
      record {
        kept = z.whole ∙ lb ∙ q.whole;
        under = λ lo hi h. same_trans (z.rest lo hi (inl (omega arith))) (stored lo hi (omega arith) (inr h));
        between =
            same_trans (z.rest housed_at (open_at 0) (inl (omega arith)))
            (stored housed_at (open_at 0) (omega arith) (inl (omega arith)));
        ring =
            same_trans (z.rest ring_at slots_at (inr (omega arith))) (stored ring_at slots_at (omega arith) (inl (omega arith)));
        queue = rw (waits, pieces) (q.pieces ∙ rw (add-zero first));
        other =
            λ t l e.
            same_trans (z.other t e) (stored (open_at t) (open_at t + 150) (omega arith) (inl (omega arith)));
        gone = λ t l e. z.gone t l e;
      }

  pub cleared_open : (t : ℕ) → open_in (cleared_on s mask) t ≡ cond (names mask t) nothing_open (open_in s t)
  cleared_open t = at (names mask t) refl
    where
      at : (b : Bool) → names mask t ≡ b → open_in (cleared_on s mask) t ≡ cond b nothing_open (open_in s t)
      at true e = shut_open (cleared_on s mask) t (λ l. clears.gone t l e)
      at false e = open_where (cleared_on s mask) s (omega (arith, clears.kept)) fit t (λ l. clears.other t l e)

  pub cleared-view : view (cleared_on s mask) ≡ cleared (view s) mask
  unfolding view cleared
  cleared-view =
      let q = clears in
      let r : List ℕ = cleared_on s mask in
      let first : first_in r ≡ first_in s =
      ap (λ (n : ℕ). n % 48) ((q.under 0 waiting_at (omega arith)).byte first_at (omega arith) (omega arith)) in
      let queue :
      pieces_in r (first_in r) (waiting_in r)
      ≡ without (names mask) (pieces_in s (first_in s) (waiting_in s)) =
      rw first q.queue in
      let counts : count_in r ≡ count_in s =
      counts_same r s (same-within (count_at 0) (open_at 0) q.between (omega arith) (omega arith)) in
      streams-same r s fit (omega (arith, q.kept)) (q.under 0 first_at (omega arith))
      (same-within housed_at (count_at 0) q.between (omega arith) (omega arith)) q.ring
      ∙ (λ i. with_streams (view s) (record { opened = fun_ext cleared_open i; counts = counts i; queue = queue i }))
