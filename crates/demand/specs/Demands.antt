-- Demand 3 about calls on lent bytes: what the controller's polls write, and what the reader's calls hand out, is what
-- `Rattle.delivery.specs.Demands` says, byte for byte, for any buffers that are long enough, any frames and any outputs.
--
-- A call is a frame with the output that is lent with it. `step_of` and `read_of` are what the entries do to their bytes: their
-- contracts are equations with them. `start_of` starts both afresh. (`Framed`: frames are of bytes, as Lib says.)
-- Assumes nothing.
use Rattle.std.specs.Prelude.{◌≡◌, cond, ◌&&◌, List, [], ◌∷◌, map, ℕ, ◌%◌, ◌≤◌, eqb, length, take}
use Rattle.wire.specs.Wire.{be16}
use Rattle.paper.specs.Frames.{frame_of}
use Rattle.paper.specs.Streams.{listed}
use Rattle.paper.specs.History.{is_accepted}
use Rattle.polls.specs.Polls.{is_poll, polled}
use Rattle.delivery.specs.Chosen.{Arrival, own_of, arrived, NoOthers, Gaps, Comes}
use Rattle.delivery.specs.HandedOut.{Given, of, arrived_whole}
use Rattle.delivery.specs.Fates.{Fate, arrivals, Quiet, fates_of}
use Rattle.state.specs.Layout.{state_bytes}
use Rattle.lent.specs.Calls.{Framed, calls}
use Rattle.machine.specs.Called.{start_of}
use Rattle.machine.specs.Runs.{replies_of}
use Rattle.shelf.specs.Layout.{reader_bytes}
use Rattle.shelf.specs.Fresh as shelf
use Rattle.shelf.specs.Runs.{readings_of}

-- ---- the controller's calls

-- the packets that accepted polls wrote: "Accepted polls write 126 bytes"
unfoldable pub packets_written : List (List ℕ × List ℕ) → List (ℕ × List ℕ) → List (List ℕ)
packets_written [] os = []
packets_written (x ∷ xs) [] = []
packets_written (x ∷ xs) (o ∷ os) =
    cond (is_accepted o.0 && is_poll (frame_of x.0)) (take 126 o.1 ∷ packets_written xs os) (packets_written xs os)

-- ---- the reader's calls

-- what was handed out, each with its stream: at its listed length at the output's front
unfoldable pub packets_handed : List (List ℕ × List ℕ) → List (ℕ × List ℕ) → List (ℕ × List ℕ)
packets_handed [] hs = []
packets_handed (x ∷ xs) [] = []
packets_handed (x ∷ xs) (h ∷ hs) =
    let s : ℕ = be16 x.0 6 % 16 in
    cond (eqb h.0 1) ((s, take (listed s) h.1) ∷ packets_handed xs hs) (packets_handed xs hs)

-- by a reader that is started on lent bytes and then called
abbrev pub hands_out_on : List ℕ → List (List ℕ × List ℕ) → List (ℕ × List ℕ)
hands_out_on lent given = packets_handed given (readings_of (shelf.start_of lent).state given)

-- The reader's calls: the frames that arrive, each with an output of 776 bytes or more; `lent` are the reader's bytes.
pub record Called (ys : List Arrival) (lent : List ℕ) (given : List (List ℕ × List ℕ)) : Type 0 where
  pub long : reader_bytes ≤ length lent
  pub bytes : Framed given
  pub frames : Given ys (calls given)

-- ---- of any arrivals

-- `xs` are the controller's calls, and `calls xs` the same as document 01 sees them.
abbrev pub Delivered : List (List ℕ × List ℕ) → List Arrival → ℕ → Type 0
Delivered xs ys s =
    Comes (calls xs) ys s → (lent : List ℕ) (given : List (List ℕ × List ℕ)) → Called ys lent given
    → of s (hands_out_on lent given) ≡ of s (arrived_whole (calls xs) ys)

abbrev pub ByArrivals : List Arrival → List Arrival → ℕ → Type 0
ByArrivals ys zs s =
    own_of s ys ≡ own_of s zs → NoOthers s ys → NoOthers s zs → (lent lent' : List ℕ) (given given' : List (List ℕ × List ℕ))
    → Called ys lent given → Called zs lent' given' → of s (hands_out_on lent given) ≡ of s (hands_out_on lent' given')

-- ---- by fates

abbrev pub ByFates : List (List ℕ × List ℕ) → List Arrival → ℕ → Type 0
ByFates xs ys s =
    Quiet ys → Gaps 0 (arrived s ys) → (lent : List ℕ) (given : List (List ℕ × List ℕ)) → Called ys lent given
    → of s (hands_out_on lent given) ≡ of s (arrived_whole (calls xs) ys)

abbrev pub InOrder : List (List ℕ × List ℕ) → List Arrival → Type 0
InOrder xs ys =
    Quiet ys → ((s : ℕ) → Gaps 0 (arrived s ys)) → (lent : List ℕ) (given : List (List ℕ × List ℕ)) → Called ys lent given
    → hands_out_on lent given ≡ arrived_whole (calls xs) ys

abbrev pub Independent : List (List ℕ × List ℕ) → List Fate → List Fate → ℕ → Type 0
Independent xs fates fates' s =
    fates_of s (polled (calls xs)) fates ≡ fates_of s (polled (calls xs)) fates' → Quiet (arrivals (calls xs) fates)
    → Quiet (arrivals (calls xs) fates') → (lent lent' : List ℕ) (given given' : List (List ℕ × List ℕ))
    → Called (arrivals (calls xs) fates) lent given → Called (arrivals (calls xs) fates') lent' given'
    → of s (hands_out_on lent given) ≡ of s (hands_out_on lent' given')

-- ---- the demand

-- The packets on the way are those that the polls among the controller's calls wrote into their outputs, whatever bytes are lent to
-- it; then as in `Rattle.delivery.specs.Demands.Demand3`.
pub record Demand3 : Type 0 where
  pub packets : (lent : List ℕ) → state_bytes ≤ length lent → (xs : List (List ℕ × List ℕ)) → Framed xs
      → packets_written xs (replies_of (start_of lent).state xs) ≡ map (λ p. p.bytes) (polled (calls xs))
  pub delivers : (xs : List (List ℕ × List ℕ)) (ys : List Arrival) (s : ℕ) → Delivered xs ys s
  pub by_arrivals : (ys zs : List Arrival) (s : ℕ) → ByArrivals ys zs s
  pub by_fates : (xs : List (List ℕ × List ℕ)) (fates : List Fate) (s : ℕ) → ByFates xs (arrivals (calls xs) fates) s
  pub in_order : (xs : List (List ℕ × List ℕ)) (fates : List Fate) → InOrder xs (arrivals (calls xs) fates)
  pub always : (xs : List (List ℕ × List ℕ)) (fates : List Fate) (n : ℕ)
      → ((s : ℕ) → ByFates xs (take n (arrivals (calls xs) fates)) s) × InOrder xs (take n (arrivals (calls xs) fates))
  pub independent : (xs : List (List ℕ × List ℕ)) (fates fates' : List Fate) (s : ℕ) → Independent xs fates fates' s
