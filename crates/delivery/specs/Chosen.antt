-- Demand 3: what arrives, and what is asked of it.
-- Assumes nothing.
use Rattle.std.specs.Prelude.{◌≡◌, ◌⊎◌, Bool, true, false, cond, List, [], ◌∷◌, map, ℕ, suc, ◌+◌, ◌≤◌, eqb}
use Rattle.paper.specs.Reader.{Packet, packet, not_carried, no_packet, packet_of}
use Rattle.paper.specs.Runs.{Call}
use Rattle.polls.specs.Polls.{Polled, polled, polled_of}

-- ---- "lose any, repeat any unaltered as the next arrival of its stream"

-- The second are some of the first, in their order, each perhaps several times in a row.
abbrev pub Chosen : List Polled → List Polled → Type 0
Chosen ps [] = Unit {0}
Chosen [] (q ∷ qs) = ⊥
Chosen (p ∷ ps) (q ∷ qs) = Chosen ps (q ∷ qs) ⊎ ((q ≡ p) × Chosen (p ∷ ps) qs)

-- what arrives: a packet of the controller's, or some other frame
pub data Arrival : Type 0 where
  own : Polled → Arrival
  strange : List ℕ → Arrival

abbrev pub frame : Arrival → List ℕ
frame (own p) = p.bytes
frame (strange f) = f

-- the packets of stream s among arrivals, and the numbers of their pieces, in order of arrival
unfoldable pub own_of : ℕ → List Arrival → List Polled
own_of s [] = []
own_of s (own p ∷ ys) = cond (eqb p.stream s) (p ∷ own_of s ys) (own_of s ys)
own_of s (strange f ∷ ys) = own_of s ys

abbrev pub arrived : ℕ → List Arrival → List ℕ
arrived s ys = map (λ p. p.number) (own_of s ys)

-- ---- "put frames that are no packet of a carried stream (replies 20 and 21) anywhere"

-- whether it is a packet of stream s
abbrev pub is_of : ℕ → Packet → Bool
is_of s (packet t count x) = eqb t s
is_of s not_carried = false
is_of s no_packet = false

abbrev pub IsOwn : ℕ → Arrival → Type 0
IsOwn s (own p) = p.stream ≡ s
IsOwn s (strange f) = ⊥

-- The reader finds a packet of stream s in no other frames than the controller's of stream s.
abbrev pub NoOthers : ℕ → List Arrival → Type 0
NoOthers s [] = Unit {0}
NoOthers s (y ∷ ys) = (is_of s (packet_of (frame y)) ≡ true → IsOwn s y) × NoOthers s ys

-- ---- "If never more than 4,094 queued pieces of a stream go missing before its first arrival or between two"

-- where e pieces have passed, arrived or missing: those from e up to the next arrival, m, go missing
abbrev pub Gaps : ℕ → List ℕ → Type 0
Gaps e [] = Unit {0}
Gaps e (m ∷ ms) = (m ≤ e + 4094) × Gaps (suc m) ms

-- all that is asked of the arrivals of stream s
pub record Comes (calls : List Call) (ys : List Arrival) (s : ℕ) : Type 0 where
  pub chosen : Chosen (polled_of s (polled calls)) (own_of s ys)
  pub no_others : NoOthers s ys
  pub gaps : Gaps 0 (arrived s ys)
