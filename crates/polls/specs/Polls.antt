-- Demand 3: "Take the controller's packets in the order polled": what accepted polls wrote, each with the stream and the number of its piece.
-- Assumes nothing.
use Rattle.std.specs.Prelude.{◌≡◌, Bool, cond, ◌&&◌, ◌||◌, List, [], ◌∷◌, ◌++◌, map, ℕ, suc, ◌%◌, eqb, get_or, take}
use Rattle.paper.specs.Frames.{cdmu_a, cdmu_b, Frame, frame_of}
use Rattle.paper.specs.Streams.{pieces}
use Rattle.paper.specs.Packets.{cut}
use Rattle.paper.specs.Queue.{Piece}
use Rattle.paper.specs.Controller.{Controller, start}
use Rattle.paper.specs.Step.{count_of, Outcome, step}
use Rattle.paper.specs.Reader.{packet, packet_of}
use Rattle.paper.specs.Runs.{Call}
use Rattle.paper.specs.History.{poll_on, is_accepted, sent_at, counts_after, numbered_all, leaves, takes_at}

-- What a poll wrote, with the stream and the number of its piece.
pub record Polled : Type 0 where
  pub stream : ℕ
  pub number : ℕ
  pub bytes : List ℕ

-- The controller's queue once more, beside it, with numbers in place of counts: of each stream how many pieces were queued, and the
-- pieces that wait, each under its number. They move as the controller's do, but that a number goes on by one without end.
pub record Numbers : Type 0 where
  pub queued : ℕ → ℕ
  pub waiting : List (Piece (List ℕ))

abbrev pub none_queued : Numbers
none_queued = record { queued = λ s. 0; waiting = [] }

-- the pieces that wait once those that a call queues have joined them
abbrev pub joined_at : Controller → Numbers → Call → List (Piece (List ℕ))
joined_at c w x = w.waiting ++ numbered_all suc w.queued (sent_at c x)

unfoldable pub numbers_after : Controller → Numbers → Call → Numbers
numbers_after c w x = record { queued = counts_after suc w.queued (sent_at c x); waiting = leaves (takes_at c x) (joined_at c w x) }

abbrev pub is_poll : Frame → Bool
is_poll f = poll_on cdmu_a (count_of f) || poll_on cdmu_b (count_of f)

-- an accepted poll takes the first piece that waits
unfoldable pub taken_at : Controller → Call → List (Piece (List ℕ)) → List (Piece (List ℕ))
taken_at c x q = cond (is_accepted (step c x.bytes x.room).reply && is_poll (frame_of x.bytes)) (take 1 q) []

abbrev pub written : List ℕ → Piece (List ℕ) → Polled
written bytes p = record { stream = p.stream; number = p.count; bytes = bytes }

unfoldable pub polled_from : Controller → Numbers → List Call → List Polled
polled_from c w [] = []
polled_from c w (x ∷ xs) =
    let o : Outcome = step c x.bytes x.room in
    map (written o.out) (taken_at c x (joined_at c w x)) ++ polled_from o.next (numbers_after c w x) xs

-- "Start both afresh."
unfoldable pub polled : List Call → List Polled
polled calls = polled_from start none_queued calls

-- That these are the controller's packets: their bytes are what its accepted polls wrote, one after the other,
unfoldable pub poll_outputs : List Call → List (ℕ × List ℕ) → List (List ℕ)
poll_outputs [] os = []
poll_outputs (x ∷ xs) [] = []
poll_outputs (x ∷ xs) (o ∷ os) =
    cond (is_accepted o.0 && is_poll (frame_of x.bytes)) (o.1 ∷ poll_outputs xs os) (poll_outputs xs os)

-- and each is, of the pieces of its stream that were queued, the one of its number, with that number modulo 4096 for a count.
unfoldable pub pieces_queued : ℕ → List (ℕ × List ℕ) → List (List ℕ)
pieces_queued s [] = []
pieces_queued s (p ∷ ps) = cond (eqb p.0 s) (cut (pieces s) p.1 ++ pieces_queued s ps) (pieces_queued s ps)

abbrev pub Numbered : List (ℕ × List ℕ) → List Polled → Type 0
Numbered sent [] = Unit {0}
Numbered sent (p ∷ ps) =
    (packet_of p.bytes ≡ packet p.stream (p.number % 4096) (get_or (pieces_queued p.stream sent) p.number []))
    × Numbered sent ps

-- of polled packets those of stream s
unfoldable pub polled_of : ℕ → List Polled → List Polled
polled_of s [] = []
polled_of s (p ∷ ps) = cond (eqb p.stream s) (p ∷ polled_of s ps) (polled_of s ps)
