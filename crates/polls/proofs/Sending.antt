-- What the controller queues: along any run from a fresh start every datastream packet is whole, and every piece that waits is
-- one that the reader takes for what it is.
-- Assumes nothing.
use mathlib.Core.Path.{◌≡◌, refl, sym, ap, ◌∙◌, subst}
use mathlib.Core.Bool.{Bool, true, false, cond}
use mathlib.Core.List.{List, [], ◌∷◌, ◌++◌, map}
use Prim.Native.Nat.{ℕ, suc, ◌+◌, ◌-◌, ◌*◌, ◌/◌, ◌<◌}
use native.Mathlib.Nat.{zero-mul, suc-mul}
use native.Mathlib.Omega.{arith}
use lib.Dec.{eqb}
use lib.ListN.{length, get_or, length-append, length-map}
use lib.Seq.{get_or-append-add}
use borrow.Author.Tests.{eqb-true, not-false}
use Rattle.wire.specs.Wire.{be16}
use Rattle.paper.specs.Frames.{Frame, broadcast, command, tick, sample, poll, status, analogue, faulty, frame_of}
use Rattle.paper.specs.Impact.{Impact, Stamp}
use Rattle.paper.specs.Commands.{names, decoded}
use Rattle.paper.specs.Streams.{Form, of_bytes, of12_bits, row_of, acc_i, hk, pieces, listed, per_packet, width, form, carried, has_samples}
use Rattle.paper.specs.Packets.{pack, joined, made, data_of, opening, closing, header, datastream, cut}
use Rattle.paper.specs.Queue.{Piece, wrap, numbered, after, replaced}
use Rattle.paper.specs.Controller.{Controller, start, stamp_now}
use Rattle.paper.specs.Housekeeping.{housekeeping_data, housekeeping_packet}
use Rattle.paper.specs.Acts.{completes, with_reading, impact_packet, joined_by, closes, noted}
use Rattle.paper.specs.Step.{queues, step}
use Rattle.paper.specs.Runs.{Call, runs}
use Rattle.paper.specs.History.{is_accepted, full_packet, only_if, sent, sent_at, sent_by, counts_after, numbered_all, Takes, nothing, the_first, named, leaves, takes_at}
use Rattle.paper.proofs.Packets.{length-pack}
use Rattle.paper.proofs.All.{All, all_append, all_drop, all_without}
use Rattle.paper.proofs.Table.{sampled-carried, bytes-fill, Paired, values-fill}
use Rattle.paper.proofs.Refusals.{Passed, passed, reply_is}
use Rattle.paper.proofs.History.{queues-step}
use Rattle.paper.proofs.Kept.{Full, full_cut}
use Rattle.polls.proofs.Whole.{Whole, Ready}
use Rattle.polls.proofs.Sizes.{Each, Sizes, taken-ring, sizes-start, sizes_step}

-- ---- sizes of what packets are made of

length-joined : (w : ℕ) (xs : List (List ℕ)) → Each w xs → length (joined xs) ≡ length xs * w
length-joined w [] e = sym (zero-mul w)
length-joined w (x ∷ xs) e = length-append x (joined xs) ∙ rw (e.0, length-joined w xs e.1, suc-mul (length xs) w) (omega arith)

-- samples that fill a packet of stream s: DEN's 72 values are packed, the others' bytes are stored
length_data : (s : ℕ) (xs : List (List ℕ)) → has_samples s ≡ true → Each (width s) xs → length xs ≡ per_packet s
    → 8 + length (data_of s xs) ≡ listed s
unfolding data_of
length_data s xs h e n = by (form s) refl
  where
    by : (f : Form) → form s ≡ f → 8 + length (made f xs) ≡ listed s
    by of_bytes f = omega (arith, bytes-fill s h f, length-joined (width s) xs e, ap (λ k. k * width s) n)
    by of12_bits f =
        let p : Paired s = values-fill s h f in
        omega (arith, p.fill, length-pack (per_packet s / 2) (map (λ x. be16 x 0) xs) (length-map xs (λ x. be16 x 0) ∙ n ∙ p.pairs))

-- a packet of the listed length, from its contents
whole-datastream : (s : ℕ) (st : Stamp) (contents : List ℕ) → carried s ≡ true → 8 + length contents ≡ listed s
    → Whole s (datastream st contents)
unfolding datastream
whole-datastream s st contents c l =
    let front : List ℕ = opening ++ header st ++ contents in
    let a : listed s - 2 ≡ length front + 0 = omega arith in
    let b : listed s - 1 ≡ length front + 1 = omega arith in (
      c,
      omega (arith, length-append front closing),
      refl,
      refl,
      ap (λ n. get_or (front ++ closing) n 0) a ∙ get_or-append-add front closing 0 0,
      ap (λ n. get_or (front ++ closing) n 0) b ∙ get_or-append-add front closing 1 0,
    )

-- ---- packets that are queued

-- each with its stream
abbrev pub Wholes : List (ℕ × List ℕ) → Type 0
Wholes = All (λ p. Whole p.0 p.1)

whole_only : (b : Bool) (s : ℕ) (x : List ℕ) → (b ≡ true → Whole s x) → Wholes (only_if b (s, x))
whole_only true s x w = (w refl, tt)
whole_only false s x w = tt

whole-housekeeping : (c : Controller) → Sizes c → Whole hk (housekeeping_packet c)
unfolding housekeeping_packet housekeeping_data row_of
whole-housekeeping c k =
    whole-datastream hk (stamp_now c hk) (housekeeping_data c) refl (rw k.analogues)

whole-impact : (i : Impact) → length i.ring ≡ 512 → Whole acc_i (impact_packet i)
unfolding impact_packet row_of
whole-impact i l = whole-datastream acc_i i.stamp (pack i.ring) refl (omega (arith, length-pack 256 i.ring l))

whole-samples : (c : Controller) (s : ℕ) (x : List ℕ) → has_samples s ≡ true → length x ≡ width s → closes c s ≡ true → Sizes c
    → Whole s (full_packet c s x)
unfolding full_packet joined_by
whole-samples c s x h l e k =
    whole-datastream s _ _ (sampled-carried s h)
    (length_data s ((c.streams.opened s).samples ++ (x ∷ [])) h (all_append _ (c.streams.opened s).samples (x ∷ []) (k.fits s).1 (l, tt))
    (omega (arith, length-append (c.streams.opened s).samples (x ∷ []), eqb-true (suc (length (c.streams.opened s).samples)) (per_packet s) e)))

sent-accepted : (c : Controller) (f : Frame) (room : ℕ) → Passed c f room → Sizes c → Wholes (sent c f)
unfolding sent noted
sent-accepted c (broadcast cc time altitude spin phase) room p k = tt
sent-accepted c (command cc id sequence parameters) room p k =
    whole_only (queues (decoded id parameters)) hk _ (λ e. whole-housekeeping (noted c cc id sequence) k)
sent-accepted c (tick r) room p k =
    whole_only (completes c) acc_i _ (λ e. whole-impact (with_reading c.impact r) (taken-ring c.impact r k.readings))
sent-accepted c (sample s x) room p k =
    whole_only (closes c s) s _ (λ e. whole-samples c s x (not-false _ p.carries) (eqb-true _ _ (not-false _ p.sized)) e k)
sent-accepted c (poll cc) room p k = tt
sent-accepted c (status cc low flags) room p k = tt
sent-accepted c (analogue bytes) room p k = tt
sent-accepted c faulty room p k = tt

-- what a call queues is whole
pub sent-step : (c : Controller) (x : Call) → Sizes c → Wholes (sent_at c x)
unfolding sent_at
sent-step c x k = by (is_accepted (step c x.bytes x.room).reply) refl
  where
    f : Frame
    f = frame_of x.bytes

    by : (b : Bool) → is_accepted (step c x.bytes x.room).reply ≡ b → Wholes (cond b (sent c f) [])
    by true e = sent-accepted c f x.room (passed c f x.room (sym (reply_is c x.bytes x.room) ∙ eqb-true _ _ e)) k
    by false e = tt

pub sent-runs : (xs : List Call) (c : Controller) → Sizes c → Wholes (sent_by c xs)
unfolding sent_by
sent-runs [] c k = tt
sent-runs (x ∷ xs) c k =
    all_append _ (sent_at c x) _ (sent-step c x k) (sent-runs xs (step c x.bytes x.room).next (sizes_step c x k))

-- every packet that is queued after a fresh start
pub sent-whole : (xs : List Call) → Wholes (sent_by start xs)
sent-whole xs = sent-runs xs start sizes-start

-- ---- pieces that wait

abbrev pub Readies : List (Piece (List ℕ)) → Type 0
Readies = All Ready

ready_numbered : (s n : ℕ) (xs : List (List ℕ)) → carried s ≡ true → n < 4096 → Full xs → Readies (numbered wrap s n xs)
unfolding numbered
ready_numbered s n [] c h f = tt
ready_numbered s n (x ∷ xs) c h f = ((c, h, f.0), ready_numbered s (wrap n) xs c (omega arith) f.1)

after-below : (n : ℕ) (xs : List (List ℕ)) → n < 4096 → after wrap n xs < 4096
unfolding after
after-below n [] h = h
after-below n (x ∷ xs) h = after-below (wrap n) xs (omega arith)

-- counts, and the pieces that take them
abbrev pub Below : (ℕ → ℕ) → Type 0
Below counts = (s : ℕ) → counts s < 4096

put-below : (counts : ℕ → ℕ) (s n : ℕ) → Below counts → n < 4096 → Below (replaced counts s n)
unfolding replaced
put-below counts s n h l t = by (eqb s t)
  where
    by : (b : Bool) → cond b n (counts t) < 4096
    by true = l
    by false = h t

counts-below : (ps : List (ℕ × List ℕ)) (counts : ℕ → ℕ) → Below counts → Below (counts_after wrap counts ps)
unfolding counts_after
counts-below [] counts h = h
counts-below (p ∷ ps) counts h =
    counts-below ps _ (put-below counts p.0 _ h (after-below (counts p.0) (cut (pieces p.0) p.1) (h p.0)))

ready_all : (ps : List (ℕ × List ℕ)) (counts : ℕ → ℕ) → Wholes ps → Below counts → Readies (numbered_all wrap counts ps)
unfolding numbered_all
ready_all [] counts w h = tt
ready_all (p ∷ ps) counts w h =
    let s : ℕ = p.0 in
    all_append _ (numbered wrap s (counts s) (cut (pieces s) p.1)) _
    (ready_numbered s (counts s) (cut (pieces s) p.1) w.0.0 (h s) (full_cut (pieces s) p.1))
    (ready_all ps _ w.1 (put-below counts s _ h (after-below (counts s) (cut (pieces s) p.1) (h s))))

ready_leaves : (t : Takes) (q : List (Piece (List ℕ))) → Readies q → Readies (leaves t q)
ready_leaves nothing q r = r
ready_leaves the_first q r = all_drop _ 1 q r
ready_leaves (named mask) q r = all_without _ (names mask) q r

-- Every piece that waits is ready, and so is every count that the next one takes.
pub record Waits (c : Controller) : Type 0 where
  pub ready : Readies c.streams.queue
  pub below : Below c.streams.counts

pub waits_start : Waits start
unfolding start
waits_start = record { ready = tt; below = λ s. omega arith }

pub waits_step : (c : Controller) (x : Call) → Sizes c → Waits c → Waits (step c x.bytes x.room).next
waits_step c x k w =
    let q = queues-step c x in
    record {
      ready =
          subst Readies (sym q.queue)
          (ready_leaves (takes_at c x) _
          (all_append _ c.streams.queue _ w.ready (ready_all (sent_at c x) c.streams.counts (sent-step c x k) w.below)));
      below = subst Below (sym q.counts) (counts-below (sent_at c x) c.streams.counts w.below);
    }

pub waits_runs : (xs : List Call) (c : Controller) → Sizes c → Waits c → Waits (runs c xs)
unfolding runs
waits_runs [] c k w = w
waits_runs (x ∷ xs) c k w = waits_runs xs (step c x.bytes x.room).next (sizes_step c x k) (waits_step c x k w)

-- after any calls from a fresh start
pub waits_fresh : (xs : List Call) → Waits (runs start xs)
waits_fresh xs = waits_runs xs start sizes-start waits_start

pub queue-pieces : (xs : List Call) → Readies (runs start xs).streams.queue
queue-pieces xs = (waits_fresh xs).ready
