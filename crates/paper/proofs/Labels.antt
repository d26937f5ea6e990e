-- Document 01, "Status words": each bit of each word carries its own column's label.
-- Assumes nothing.
use mathlib.Core.Path.{◌≡◌, refl, ap, ◌∙◌}
use mathlib.Core.Bool.{Bool, true, false}
use Prim.Native.Nat.{ℕ, ◌/◌, ◌%◌, ◌≤◌, ◌<◌}
use native.Mathlib.Omega.{arith}
use lib.Dec.{eqb}
use Rattle.paper.specs.Mode.{number}
use Rattle.paper.specs.Status.{bit_of, bit, Flags, Shown, empty_with, set, word_a, word_b}

pub bit_le : (b : Bool) → bit b ≤ 1
bit_le true = omega arith
bit_le false = omega arith

pub bit_back : (b : Bool) → eqb (bit b) 1 ≡ b
bit_back true = refl
bit_back false = refl

-- a word of eight bits above a byte, whatever they are
abbrev word : ℕ → Bool → Bool → Bool → Bool → Bool → Bool → Bool → Bool → ℕ
word low b8 b9 b10 b11 b12 b13 b14 b15 =
    set 15 b15 (set 14 b14 (set 13 b13 (set 12 b12 (set 11 b11 (set 10 b10 (set 9 b9 (set 8 b8 (empty_with low))))))))

-- the labels of such a word, and its low byte: "The low byte passes through."
pub record Reads (w low : ℕ) (b8 b9 b10 b11 b12 b13 b14 b15 : Bool) : Type 0 where
  pub at_15 : bit_of w 15 ≡ b15
  pub at_14 : bit_of w 14 ≡ b14
  pub at_13 : bit_of w 13 ≡ b13
  pub at_12 : bit_of w 12 ≡ b12
  pub at_11 : bit_of w 11 ≡ b11
  pub at_10 : bit_of w 10 ≡ b10
  pub at_9 : bit_of w 9 ≡ b9
  pub at_8 : bit_of w 8 ≡ b8
  pub low_byte : w % 256 ≡ low
  pub small : w < 65536

read : (n : ℕ) (b : Bool) → n ≡ bit b → eqb n 1 ≡ b
read n b e = ap (λ m. eqb m 1) e ∙ bit_back b

module _ (low : ℕ) (b8 b9 b10 b11 b12 b13 b14 b15 : Bool) (h : low < 256) where
  reads : Reads (word low b8 b9 b10 b11 b12 b13 b14 b15) low b8 b9 b10 b11 b12 b13 b14 b15
  reads =
      let w : ℕ = word low b8 b9 b10 b11 b12 b13 b14 b15 in
      let l8 = bit_le b8 in
      let l9 = bit_le b9 in
      let l10 = bit_le b10 in
      let l11 = bit_le b11 in
      let l12 = bit_le b12 in
      let l13 = bit_le b13 in
      let l14 = bit_le b14 in
      let l15 = bit_le b15 in
      record {
        at_15 = read (w / 32768 % 2) b15 (omega arith);
        at_14 = read (w / 16384 % 2) b14 (omega arith);
        at_13 = read (w / 8192 % 2) b13 (omega arith);
        at_12 = read (w / 4096 % 2) b12 (omega arith);
        at_11 = read (w / 2048 % 2) b11 (omega arith);
        at_10 = read (w / 1024 % 2) b10 (omega arith);
        at_9 = read (w / 512 % 2) b9 (omega arith);
        at_8 = read (w / 256 % 2) b8 (omega arith);
        low_byte = omega arith;
        small = omega arith;
      }

-- column A
pub labels_a : (low : ℕ) (f : Flags) (s : Shown) → low < 256
    → Reads (word_a low f s) low f.volts12_ok (bit_of (number s.mode) 0) (bit_of (number s.mode) 1) (bit_of (number s.mode) 2)
    (bit_of s.commands 0) f.all_ok f.watchdog_ok s.impact
unfolding word_a
labels_a low f s h = reads low _ _ _ _ _ _ _ _ h

-- column B
pub labels_b : (low : ℕ) (f : Flags) (s : Shown) → low < 256
    → Reads (word_b low f s) low f.nominal12_v f.redundant12_v f.bcp_loss f.ddb_loss (bit_of s.commands 0) f.all_ok
    f.sounder s.impact
unfolding word_b
labels_b low f s h = reads low _ _ _ _ _ _ _ _ h
