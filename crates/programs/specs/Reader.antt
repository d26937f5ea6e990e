-- Program reader: what it writes for a packet.
-- Assumes nothing.
use Rattle.std.specs.Prelude.{ℕ, ◌%◌, cond, List, [], ◌∷◌, ◌++◌, eqb, take, replicate}
use Rattle.wire.specs.Wire.{be16}
use Rattle.paper.specs.Streams.{listed}
use Rattle.lines.specs.Hex.{hex_of, decimal_of}
use Rattle.lines.specs.Talk.{Answer, Way}
use Rattle.lent.specs.Told.{Res}
use Rattle.shelf.specs.Layout.{reader_bytes}
use Rattle.shelf.specs.Fresh.{start_of}
use Rattle.shelf.specs.Received.{read_of}

-- "1 handed out", "the packet at its listed length"; "no refusal writes output", and a piece that is taken writes none
unfoldable pub handed : ℕ → List ℕ → ℕ
handed reply f = cond (eqb reply 1) (listed (be16 f 6 % 16)) 0

-- the handed-out bytes
abbrev pub handed_bytes : List ℕ → Res → List ℕ
handed_bytes f o = take (handed o.reply f) o.out

-- "handed-out bytes after a space": where there are none, no space
abbrev pub spaced : List ℕ → List ℕ
spaced [] = []
spaced (x ∷ xs) = 32 ∷ hex_of (x ∷ xs)

-- "replies in decimal, then handed-out bytes after a space", and an LF
abbrev pub line_for : ℕ → List ℕ → List ℕ
line_for reply bytes = decimal_of reply ++ (spaced bytes ++ (10 ∷ []))

-- each packet finds an output of 776 zeros
unfoldable pub blank : List ℕ
blank = replicate 776 0

-- what reader writes for a packet, and the state that is left
abbrev pub answered : List ℕ → Res → Answer
answered f o = record { text = line_for o.reply (handed_bytes f o); state = o.state }

abbrev pub answer_to : Way
answer_to s f = answered f (read_of s f blank)

-- the state that reader begins with: a start on zeros
unfoldable pub begun : List ℕ
begun = (start_of (replicate reader_bytes 0)).state
