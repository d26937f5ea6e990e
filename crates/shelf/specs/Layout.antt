-- Where each number of the reader stands in its lent bytes: "the records of all carried streams and the gathered pieces are kept
-- in one range of lent bytes". Every stream's number below 12 has a place by one formula; those not carried leave theirs unused.
-- Assumes nothing.
use Rattle.std.specs.Prelude.{ℕ, ◌+◌, ◌*◌}

-- the mark in front, two bytes: the letters SR
abbrev pub reader_mark : ℕ
reader_mark = 0x5352

-- streams have numbers below this
abbrev pub streams : ℕ
streams = 12

-- A stream's record: last count (2 bytes), place (1), and 1 where a gathering runs (1).
abbrev pub record_at : ℕ → ℕ
record_at t = 2 + 4 * t

abbrev pub place_at : ℕ → ℕ
place_at t = record_at t + 2

abbrev pub runs_at : ℕ → ℕ
runs_at t = record_at t + 3

-- its gathered pieces: room for seven of 118 bytes, as many as a packet has at most
abbrev pub gather_at : ℕ → ℕ
gather_at t = 50 + 826 * t

-- the piece of a place
abbrev pub piece_at : ℕ → ℕ → ℕ
piece_at t place = gather_at t + 118 * place

abbrev pub reader_bytes : ℕ
reader_bytes = 9962
