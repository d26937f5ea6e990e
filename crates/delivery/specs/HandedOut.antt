-- Demand 3: what the reader hands out, and the datastream packets all of whose pieces arrived.
-- Assumes nothing.
use Rattle.std.specs.Prelude.{◌≡◌, Bool, true, false, cond, ◌&&◌, ◌||◌, List, [], ◌∷◌, ℕ, zero, suc, ◌+◌, ◌%◌, ◌≤◌, eqb}
use Rattle.wire.specs.Wire.{be16}
use Rattle.paper.specs.Streams.{pieces}
use Rattle.paper.specs.Queue.{replaced}
use Rattle.paper.specs.Controller.{start}
use Rattle.paper.specs.Reader.{reader_start}
use Rattle.paper.specs.Runs.{Call, readings}
use Rattle.paper.specs.History.{sent_by}
use Rattle.delivery.specs.Chosen.{Arrival, frame, arrived}

-- ---- "the reader, given room, hands out"

-- the reader's calls: each arrival in turn, with an output of 776 bytes or more
abbrev pub Given : List Arrival → List Call → Type 0
Given [] [] = Unit {0}
Given [] (x ∷ xs) = ⊥
Given (y ∷ ys) [] = ⊥
Given (y ∷ ys) (x ∷ xs) = (x.bytes ≡ frame y) × (776 ≤ x.room) × Given ys xs

-- What is handed out ("1 handed out"), each with its stream, of calls and what came back of them; "count times 16 plus stream"
unfoldable pub handed_out : List Call → List (ℕ × List ℕ) → List (ℕ × List ℕ)
handed_out [] hs = []
handed_out (x ∷ xs) [] = []
handed_out (x ∷ xs) (h ∷ hs) = cond (eqb h.0 1) ((be16 x.bytes 6 % 16, h.1) ∷ handed_out xs hs) (handed_out xs hs)

-- of things with their streams, those of stream s
unfoldable pub of : {X : Type 0} → ℕ → List (ℕ × X) → List X
of s [] = []
of s (x ∷ xs) = cond (eqb x.0 s) (x.1 ∷ of s xs) (of s xs)

-- "Start both afresh."
abbrev pub hands_out : List Call → List (ℕ × List ℕ)
hands_out given = handed_out given (readings reader_start given)

-- ---- "exactly the datastream packets all of whose pieces arrived, once each, in order, every byte true"

abbrev pub among : ℕ → List ℕ → Bool
among n [] = false
among n (m ∷ ms) = eqb n m || among n ms

-- whether the k pieces from number n on are among those that arrived
abbrev pub all_among : ℕ → ℕ → List ℕ → Bool
all_among zero n ms = true
all_among (suc k) n ms = among n ms && all_among k (suc n) ms

-- Of packets with their streams, before which `before s` pieces of stream s were queued: those all of whose pieces arrived.
unfoldable pub complete : (ℕ → ℕ) → List Arrival → List (ℕ × List ℕ) → List (ℕ × List ℕ)
complete before ys [] = []
complete before ys (p ∷ ps) =
    let s : ℕ = p.0 in
    let rest : List (ℕ × List ℕ) = complete (replaced before s (before s + pieces s)) ys ps in
    cond (all_among (pieces s) (before s) (arrived s ys)) (p ∷ rest) rest

-- `sent_by` are the datastream packets that calls to the controller queued, with their streams, at their listed lengths.
abbrev pub arrived_whole : List Call → List Arrival → List (ℕ × List ℕ)
arrived_whole calls ys = complete (λ s. 0) ys (sent_by start calls)
