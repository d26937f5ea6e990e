-- The reader that lent bytes hold. Every number of a record has a meaning, whatever its bytes are.
-- Assumes nothing.
use Rattle.std.specs.Prelude.{Bool, cond, List, [], ℕ, suc, ◌%◌, eqb, get_or, drop}
use Rattle.wire.specs.Wire.{be16}
use Rattle.paper.specs.Streams.{pieces, carried}
use Rattle.paper.specs.Packets.{chunks, piece_size}
use Rattle.paper.specs.Reader.{Track, fresh, Reader}
use Rattle.shelf.specs.Layout.{record_at, place_at, runs_at, gather_at}

-- counts and places go round
abbrev pub last_in : List ℕ → ℕ → ℕ
last_in s t = be16 s (record_at t) % 4096

abbrev pub place_in : List ℕ → ℕ → ℕ
place_in s t = get_or s (place_at t) 0 % pieces t

abbrev pub runs_in : List ℕ → ℕ → Bool
runs_in s t = eqb (get_or s (runs_at t) 0) 1

-- The record of stream t. A gathering that runs has a piece for each place up to the record's: it began at place 0 and went on by
-- one each time.
unfoldable pub track_in : List ℕ → ℕ → Track (List ℕ)
track_in s t =
    record {
      last = last_in s t;
      place = place_in s t;
      running = runs_in s t;
      gathered = cond (runs_in s t) (chunks piece_size (suc (place_in s t)) (drop (gather_at t) s)) [];
    }

-- a stream not carried has the record that it starts with
unfoldable pub reader_in : List ℕ → Reader
reader_in s t = cond (carried t) (track_in s t) (fresh (pieces t))
