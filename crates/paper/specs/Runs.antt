-- Calls one after the other: what a controller, and a reader, are left with, and what came back.
-- Assumes nothing.
use Rattle.std.specs.Prelude.{List, [], ◌∷◌, ℕ}
use Rattle.paper.specs.Controller.{Controller}
use Rattle.paper.specs.Step.{Outcome, step}
use Rattle.paper.specs.Reader.{Reader, ReaderOutcome, reader_step}

-- a call: the bytes of a frame or packet, and the length of the output that is lent with it
pub record Call : Type 0 where
  pub bytes : List ℕ
  pub room : ℕ

abbrev pub call : List ℕ → ℕ → Call
call bytes room = record { bytes = bytes; room = room }

-- the controller after some calls
unfoldable pub runs : Controller → List Call → Controller
runs c [] = c
runs c (x ∷ xs) = runs (step c x.bytes x.room).next xs

-- each call's reply and the bytes it wrote
unfoldable pub replies : Controller → List Call → List (ℕ × List ℕ)
replies c [] = []
replies c (x ∷ xs) =
    let o : Outcome = step c x.bytes x.room in
    (o.reply, o.out) ∷ replies o.next xs

-- the same of the reader
unfoldable pub reads : Reader → List Call → Reader
reads r [] = r
reads r (x ∷ xs) = reads (reader_step r x.bytes x.room).next xs

unfoldable pub readings : Reader → List Call → List (ℕ × List ℕ)
readings r [] = []
readings r (x ∷ xs) =
    let h : ReaderOutcome = reader_step r x.bytes x.room in
    (h.reply, h.out) ∷ readings h.next xs
