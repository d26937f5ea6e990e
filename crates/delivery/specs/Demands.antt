-- Demand 3, as a claim on the definitions. Read out loud:
--
-- "Start both afresh. Take the controller's packets in the order polled" (`Polls.polled`); "lose any, repeat any unaltered as the next
-- arrival of its stream" (`Chosen.Chosen`); "put frames that are no packet of a carried stream (replies 20 and 21) anywhere"
-- (`Chosen.NoOthers`). "If never more than 4,094 queued pieces of a stream go missing before its first arrival or between two"
-- (`Chosen.Gaps`), "the reader, given room" (`HandedOut.Given`), "hands out" (`HandedOut.hands_out`) "exactly the datastream packets all of
-- whose pieces arrived, once each, in order, every byte true" (`HandedOut.arrived_whole`): an equation of lists, so that no second outcome
-- fits (`Delivered`). "What is lost or repeated in one stream changes nothing handed out of another." (`ByArrivals`)
--
-- This is said of each stream by itself, for any frames whatever in between: other streams' packets in any order, sound or not. Where the
-- order polled is kept among all streams (`Fates.arrivals`), it is said of all together: they come out in the order queued (`InOrder`).
--
-- A piece's number is how many pieces of its stream were queued before it. One that was cleared, or lost, or never polled, is a number
-- that does not arrive.
-- Assumes nothing.
use Rattle.std.specs.Prelude.{◌≡◌, List, [], ◌∷◌, ◌++◌, map, ℕ, take, drop, replicate}
use Rattle.paper.specs.Controller.{start}
use Rattle.paper.specs.Runs.{Call, call, replies}
use Rattle.paper.specs.History.{sent_by}
use Rattle.polls.specs.Polls.{polled, poll_outputs, Numbered}
use Rattle.delivery.specs.Chosen.{Arrival, own, frame, own_of, arrived, NoOthers, Gaps, Comes}
use Rattle.delivery.specs.HandedOut.{Given, of, hands_out, arrived_whole}
use Rattle.delivery.specs.Fates.{Fate, arrivals, Quiet, fates_of}

-- ---- the claim

-- of one stream, whatever becomes of the others
abbrev pub Delivered : List Call → List Arrival → ℕ → Type 0
Delivered calls ys s =
    Comes calls ys s → (given : List Call) → Given ys given → of s (hands_out given) ≡ of s (arrived_whole calls ys)

-- ---- a small loss, worked out by hand: document 01's "ACC-E pieces 0, 1, 3 to 9: only the second packet"

-- set mode 5, a sample of 512 bytes 01, one of 512 bytes 02, ten polls on A
abbrev pub two_packets : List Call
two_packets =
    call (0x02 ∷ 0x0A ∷ 0x00 ∷ 0x32 ∷ 0x00 ∷ 0x01 ∷ 0x00 ∷ 0x05 ∷ []) 126
    ∷ call (0x04 ∷ 0x0B ∷ replicate 512 0x01) 126
    ∷ call (0x04 ∷ 0x0B ∷ replicate 512 0x02) 126
    ∷ replicate 10 (call (0x05 ∷ 0x0A ∷ []) 126)

-- the third polled packet is lost
abbrev pub third_lost : List Arrival
third_lost = map own (take 2 (polled two_packets) ++ drop 3 (polled two_packets))

-- the second sample's packet, with its stream
abbrev pub only_second : List (ℕ × List ℕ)
only_second = (0x0B, 0x88 ∷ 0x88 ∷ 0 ∷ 0 ∷ 0 ∷ 0x15 ∷ (replicate 512 0x02 ++ (0x99 ∷ 0x99 ∷ []))) ∷ []

pub record Loss : Type 0 where
  pub comes : Comes two_packets third_lost 0x0B
  pub numbers : arrived 0x0B third_lost ≡ 0 ∷ 1 ∷ 3 ∷ 4 ∷ 5 ∷ 6 ∷ 7 ∷ 8 ∷ 9 ∷ []
  pub whole : arrived_whole two_packets third_lost ≡ only_second
  pub handed : hands_out (map (λ y. call (frame y) 776) third_lost) ≡ only_second

-- ---- "What is lost or repeated in one stream changes nothing handed out of another."

-- The same arrivals of stream s, the same packets of stream s handed out: whatever else arrives, and however many pieces go missing.
abbrev pub ByArrivals : List Arrival → List Arrival → ℕ → Type 0
ByArrivals ys zs s =
    own_of s ys ≡ own_of s zs → NoOthers s ys → NoOthers s zs → (given given' : List Call) → Given ys given → Given zs given'
    → of s (hands_out given) ≡ of s (hands_out given')

-- ---- where the order polled is kept among all streams

-- of one stream
abbrev pub ByFates : List Call → List Arrival → ℕ → Type 0
ByFates calls ys s =
    Quiet ys → Gaps 0 (arrived s ys) → (given : List Call) → Given ys given → of s (hands_out given) ≡ of s (arrived_whole calls ys)

-- of all streams together: in the order in which they were queued
abbrev pub InOrder : List Call → List Arrival → Type 0
InOrder calls ys =
    Quiet ys → ((s : ℕ) → Gaps 0 (arrived s ys)) → (given : List Call) → Given ys given → hands_out given ≡ arrived_whole calls ys

-- the same fates of stream s, the same packets of stream s handed out, whatever is lost or repeated in the others
abbrev pub Independent : List Call → List Fate → List Fate → ℕ → Type 0
Independent calls fates fates' s =
    fates_of s (polled calls) fates ≡ fates_of s (polled calls) fates' → Quiet (arrivals calls fates) → Quiet (arrivals calls fates')
    → (given given' : List Call) → Given (arrivals calls fates) given → Given (arrivals calls fates') given'
    → of s (hands_out given) ≡ of s (hands_out given')

-- ---- the demand

-- The packets are the controller's, under their numbers. Of any arrivals: each stream by itself, at every moment on the way too, for a
-- beginning of such arrivals is such arrivals; and whatever becomes of the others. Then of arrivals by fates, which are such arrivals:
-- each stream by itself, all together, both at every moment on the way, and whatever becomes of the others.
pub record Demand3 : Type 0 where
  pub written_by_polls : (calls : List Call) → map (λ p. p.bytes) (polled calls) ≡ poll_outputs calls (replies start calls)
  pub numbered : (calls : List Call) → Numbered (sent_by start calls) (polled calls)
  pub delivers : (calls : List Call) (ys : List Arrival) (s : ℕ) → Delivered calls ys s
  pub begins : (calls : List Call) (ys : List Arrival) (s n : ℕ) → Comes calls ys s → Comes calls (take n ys) s
  pub by_arrivals : (ys zs : List Arrival) (s : ℕ) → ByArrivals ys zs s
  pub fates_come : (calls : List Call) (fates : List Fate) (s : ℕ) → Quiet (arrivals calls fates)
      → Gaps 0 (arrived s (arrivals calls fates)) → Comes calls (arrivals calls fates) s
  pub by_fates : (calls : List Call) (fates : List Fate) (s : ℕ) → ByFates calls (arrivals calls fates) s
  pub in_order : (calls : List Call) (fates : List Fate) → InOrder calls (arrivals calls fates)
  pub always : (calls : List Call) (fates : List Fate) (n : ℕ)
      → ((s : ℕ) → ByFates calls (take n (arrivals calls fates)) s) × InOrder calls (take n (arrivals calls fates))
  pub independent : (calls : List Call) (fates fates' : List Fate) (s : ℕ) → Independent calls fates fates' s
