-- One call of the reader beside document 01's step, and calls one after the other.
-- Assumes nothing.
use Rattle.std.specs.Prelude.{◌≡◌, List, [], ◌∷◌, ℕ, length, drop}
use Rattle.wire.specs.Wire.{put}
use Rattle.paper.specs.Reader.{Reader, ReaderOutcome}
use Rattle.lent.specs.Told.{Res}
use Rattle.shelf.specs.Layout.{reader_bytes}
use Rattle.shelf.specs.View.{reader_in}
use Rattle.shelf.specs.Range.{Fit}
use Rattle.shelf.specs.Received.{read_of}

-- Bytes x that a call on bytes s leaves: they hold the reader r, and fit; they are as many, and those past the reader's are as
-- they were.
pub record Left (x s : List ℕ) (r : Reader) : Type 0 where
  pub held : reader_in x ≡ r
  pub fits : Fit x
  pub long : length x ≡ length s
  pub past : drop reader_bytes x ≡ drop reader_bytes s

-- What a call on bytes s came to, and what document 01's reader told, with the output o that was lent: the same reply; its bytes
-- at the output's front, the rest as it was; bytes that hold the reader that is left, and fit; bytes past the reader's as they were.
pub record Agrees (r : Res) (p : ReaderOutcome) (o s : List ℕ) : Type 0 where
  pub reply : r.reply ≡ p.reply
  pub out : r.out ≡ put o 0 p.out
  pub held : reader_in r.state ≡ p.next
  pub fits : Fit r.state
  pub long : length r.state ≡ length s
  pub past : drop reader_bytes r.state ≡ drop reader_bytes s

-- the bytes that calls leave
unfoldable pub reads_of : List ℕ → List (List ℕ × List ℕ) → List ℕ
reads_of s [] = s
reads_of s (x ∷ xs) = reads_of (read_of s x.0 x.1).state xs

-- each call's reply, and its output afterwards
unfoldable pub readings_of : List ℕ → List (List ℕ × List ℕ) → List (ℕ × List ℕ)
readings_of s [] = []
readings_of s (x ∷ xs) =
    let r : Res = read_of s x.0 x.1 in
    (r.reply, r.out) ∷ readings_of r.state xs
