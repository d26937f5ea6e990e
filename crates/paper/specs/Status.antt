-- Document 01, "Status words": "Each word is built from an empty one, a named bit at a time. .. The low byte passes through."
-- Assumes nothing.
use Rattle.std.specs.Prelude.{Bool, true, false, ℕ, ◌+◌, ◌*◌, ◌/◌, ◌%◌, ◌^◌, eqb}
use Rattle.paper.specs.Mode.{Mode, number}

-- whether a number's bit k is set
abbrev pub bit_of : ℕ → ℕ → Bool
bit_of n k = eqb (n / 2 ^ k % 2) 1

-- "Flags from bit 0: watchdog OK, all OK, 12V OK, DDB loss, BCP loss, redundant 12V, nominal 12V, sounder."
pub record Flags : Type 0 where
  pub watchdog_ok : Bool
  pub all_ok : Bool
  pub volts12_ok : Bool
  pub ddb_loss : Bool
  pub bcp_loss : Bool
  pub redundant12_v : Bool
  pub nominal12_v : Bool
  pub sounder : Bool

abbrev pub flags_of : ℕ → Flags
flags_of n =
    record {
      watchdog_ok = bit_of n 0;
      all_ok = bit_of n 1;
      volts12_ok = bit_of n 2;
      ddb_loss = bit_of n 3;
      bcp_loss = bit_of n 4;
      redundant12_v = bit_of n 5;
      nominal12_v = bit_of n 6;
      sounder = bit_of n 7;
    }

-- what the controller itself puts into a word: impact flag, mode, command count
pub record Shown : Type 0 where
  pub impact : Bool
  pub mode : Mode
  pub commands : ℕ

abbrev pub bit : Bool → ℕ
bit true = 1
bit false = 0

-- "an empty one", but that "The low byte passes through."
abbrev pub empty_with : ℕ → ℕ
empty_with low = low

-- "a named bit at a time": a word with one bit more
abbrev pub set : ℕ → Bool → ℕ → ℕ
set k on word = bit on * 2 ^ k + word

-- column A of the table
unfoldable pub word_a : ℕ → Flags → Shown → ℕ
word_a low f s =
    set 15 s.impact
    (set 14 f.watchdog_ok
    (set 13 f.all_ok
    (set 12 (bit_of s.commands 0)
    (set 11 (bit_of (number s.mode) 2)
    (set 10 (bit_of (number s.mode) 1) (set 9 (bit_of (number s.mode) 0) (set 8 f.volts12_ok (empty_with low))))))))

-- column B of the table
unfoldable pub word_b : ℕ → Flags → Shown → ℕ
word_b low f s =
    set 15 s.impact
    (set 14 f.sounder
    (set 13 f.all_ok
    (set 12 (bit_of s.commands 0)
    (set 11 f.ddb_loss (set 10 f.bcp_loss (set 9 f.redundant12_v (set 8 f.nominal12_v (empty_with low))))))))
