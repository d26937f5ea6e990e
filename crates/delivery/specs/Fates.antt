-- Demand 3 where the order polled is kept among all streams: what becomes of each polled packet, and what then arrives.
-- Assumes nothing.
use Rattle.std.specs.Prelude.{◌≡◌, ◌⊎◌, cond, List, [], ◌∷◌, ℕ, eqb}
use Rattle.std.proofs.Math.Option.{Option, none, some}
use Rattle.paper.specs.Queue.{replaced}
use Rattle.paper.specs.Reader.{reader_start, reader_step}
use Rattle.paper.specs.Runs.{Call}
use Rattle.polls.specs.Polls.{Polled, polled}
use Rattle.delivery.specs.Chosen.{Arrival, own, strange}

-- The next polled packet is lost; it comes; the last arrival of stream s comes again, unaltered; some other frame is put in.
pub data Fate : Type 0 where
  lost : Fate
  came : Fate
  again : ℕ → Fate
  noise : List ℕ → Fate

abbrev pub repeats : Option Polled → List Arrival → List Arrival
repeats none ys = ys
repeats (some p) ys = own p ∷ ys

-- what arrives of packets in the order polled; `last s` is the last arrival of stream s
unfoldable pub arrivals_from : (ℕ → Option Polled) → List Polled → List Fate → List Arrival
arrivals_from last ps [] = []
arrivals_from last [] (lost ∷ fs) = arrivals_from last [] fs
arrivals_from last (p ∷ ps) (lost ∷ fs) = arrivals_from last ps fs
arrivals_from last [] (came ∷ fs) = arrivals_from last [] fs
arrivals_from last (p ∷ ps) (came ∷ fs) = own p ∷ arrivals_from (replaced last p.stream (some p)) ps fs
arrivals_from last ps (again s ∷ fs) = repeats (last s) (arrivals_from last ps fs)
arrivals_from last ps (noise f ∷ fs) = strange f ∷ arrivals_from last ps fs

unfoldable pub arrivals : List Call → List Fate → List Arrival
arrivals calls fates = arrivals_from (λ s. none) (polled calls) fates

-- "frames that are no packet of a carried stream (replies 20 and 21)"
abbrev pub NoPacket : List ℕ → Type 0
NoPacket f = ((reader_step reader_start f 776).reply ≡ 20) ⊎ ((reader_step reader_start f 776).reply ≡ 21)

abbrev pub Quiet : List Arrival → Type 0
Quiet [] = Unit {0}
Quiet (own p ∷ ys) = Quiet ys
Quiet (strange f ∷ ys) = NoPacket f × Quiet ys

-- the fates of stream s alone, of packets in the order polled
unfoldable pub fates_of : ℕ → List Polled → List Fate → List Fate
fates_of s ps [] = []
fates_of s [] (lost ∷ fs) = fates_of s [] fs
fates_of s (p ∷ ps) (lost ∷ fs) = cond (eqb p.stream s) (lost ∷ fates_of s ps fs) (fates_of s ps fs)
fates_of s [] (came ∷ fs) = fates_of s [] fs
fates_of s (p ∷ ps) (came ∷ fs) = cond (eqb p.stream s) (came ∷ fates_of s ps fs) (fates_of s ps fs)
fates_of s ps (again t ∷ fs) = cond (eqb t s) (again t ∷ fates_of s ps fs) (fates_of s ps fs)
fates_of s ps (noise f ∷ fs) = fates_of s ps fs
