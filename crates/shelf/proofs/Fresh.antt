-- Fresh bytes hold document 01's fresh reader, and fit.
-- Assumes nothing.
use mathlib.Core.Path.{◌≡◌, refl, ap, ◌∙◌, fun_ext}
use mathlib.Core.Bool.{Bool, true, false, cond}
use mathlib.Core.List.{List}
use Prim.{Dec, yes, no}
use Prim.Native.Nat.{ℕ, zero, suc, ◌+◌, ◌-◌, ◌≤◌, ◌<◌}
use native.Mathlib.Decide.{dec_lt}
use native.Mathlib.Omega.{arith}
use lib.ListN.{length, drop}
use borrow.Author.Tests.{ltb-true}
use Rattle.paper.specs.Streams.{pieces, carried}
use Rattle.paper.specs.Reader.{fresh, reader_start}
use Rattle.paper.proofs.Table.{Carried, carried_rules}
use Rattle.lent.specs.Fitting.{mark_at, blank_on}
use Rattle.lent.proofs.Fitting.{fitting-kept, blank-length, blank-mark, blank_rest, drop_rest}
use Rattle.lent.proofs.Same.{Same, same_refl, same_trans}
use Rattle.shelf.specs.Layout.{reader_mark, streams, reader_bytes}
use Rattle.shelf.specs.View.{track_in, reader_in}
use Rattle.shelf.specs.Range.{Fit}
use Rattle.shelf.specs.Received.{recorded_on}
use Rattle.shelf.specs.Fresh.{fresh_on, started_on}
use Rattle.shelf.proofs.Gathered.{record_elsewhere, record_track, track_same}

-- ---- fresh records, of the streams below n

-- what is elsewhere stays
pub record Records (x s : List ℕ) : Type 0 where
  pub long : length x ≡ length s
  pub past : drop reader_bytes x ≡ drop reader_bytes s
  pub mark : Same x s mark_at (mark_at + 2)

module _ (s : List ℕ) (w : reader_bytes ≤ length s) where
  pub records : (n : ℕ) → n ≤ streams → Records (fresh_on s n) s
  unfolding fresh_on
  records zero h = record { long = refl; past = refl; mark = same_refl s _ _ }
  records (suc t) h =
      let r = records t (omega arith) in
      let e = record_elsewhere (fresh_on s t) (omega (arith, r.long)) t (omega arith) 4095 (pieces t - 1) 0 in
      record { long = e.long ∙ r.long; past = e.past ∙ r.past; mark = same_trans e.mark r.mark }

  -- each is there
  begun : (n t : ℕ) → n ≤ streams → t < n → carried t ≡ true → track_in (fresh_on s n) t ≡ fresh (pieces t)
  unfolding fresh_on
  begun zero t h l c = absurd (omega arith)
  begun (suc m) t h l c = at (dec_lt t m) (λ b. begun m t (omega arith) b c)
    where
      rules : Carried t
      rules = carried_rules t c

      some : 0 < pieces t
      some = ltb-true 0 (pieces t) c

      r : Records (fresh_on s m) s
      r = records m (omega arith)

      at : Dec (t < m) → (t < m → track_in (fresh_on s m) t ≡ fresh (pieces t)) → track_in (recorded_on (fresh_on s m) m 4095 (pieces m - 1) 0) t ≡ fresh (pieces t)
      at (yes b) before =
          let e = record_elsewhere (fresh_on s m) (omega (arith, r.long)) m (omega arith) 4095 (pieces m - 1) 0 in
          track_same _ (fresh_on s m) e.long (omega (arith, r.long)) t some (e.tracks t (omega arith) (λ z. omega arith)) (omega arith)
          rules.few (e.gathered t (omega arith) (λ z. omega arith))
          ∙ before b
      at (no b) before =
          let same : m ≡ t = omega arith in
          ap (λ (n : ℕ). track_in (recorded_on (fresh_on s m) n 4095 (pieces n - 1) 0) t) same
          ∙ record_track (fresh_on s m) (omega (arith, r.long)) t (omega arith) 4095 (pieces t - 1) 0 (omega arith) (omega (arith, some)) rules.few

-- ---- fresh bytes

module _ (s : List ℕ) (w : reader_bytes ≤ length s) where
  abbrev blank : List ℕ
  blank = blank_on reader_bytes reader_mark s

  blank-long : length blank ≡ length s
  blank-long = blank-length reader_bytes reader_mark s (omega arith) w

  blank-whole : reader_bytes ≤ length blank
  blank-whole = omega (arith, blank-long)

  pub start-length : length (started_on s) ≡ length s
  unfolding started_on
  start-length = (records blank blank-whole streams (omega arith)).long ∙ blank-long

  -- "later bytes staying"
  pub start-past : drop reader_bytes (started_on s) ≡ drop reader_bytes s
  unfolding started_on
  start-past =
      (records blank blank-whole streams (omega arith)).past
      ∙ drop_rest reader_bytes blank s blank-long (blank_rest reader_bytes reader_mark s (omega arith) w)

  pub start-view : reader_in (started_on s) ≡ reader_start
  unfolding reader_in reader_start started_on
  start-view = fun_ext (λ t. at t (carried t) refl)
    where
      at : (t : ℕ) (b : Bool) → carried t ≡ b → cond b (track_in (fresh_on blank streams) t) (fresh (pieces t)) ≡ fresh (pieces t)
      at t true c = begun blank blank-whole streams t (omega arith) (omega (arith, (carried_rules t c).small)) c
      at t false c = refl

  pub start-fit : Fit (started_on s)
  unfolding started_on
  start-fit =
      let r = records blank blank-whole streams (omega arith) in
      fitting-kept (record { whole = blank-whole; mark = blank-mark reader_bytes reader_mark s (omega arith) w })
      (omega (arith, r.long, blank-long)) r.mark
