-- Document 01, "Time and mode", and the manual's 2.4: the eight modes, what an accepted broadcast does to the mode of an
-- unlocked controller, and what an entry stores.
-- Assumes nothing.
use Rattle.std.specs.Prelude.{Bool, cond, not, ◌&&◌, ◌||◌, ℕ, ◌+◌, ◌%◌, leb, eqb}
use Rattle.paper.specs.Clock.{seconds_of}

-- the manual's names
pub data Mode : Type 0 where
  emc : Mode
  upper : Mode
  mid : Mode
  lower : Mode
  proximity : Mode
  surface : Mode
  extended : Mode
  diagnostic : Mode

-- the paper's numbers, which status words and packets carry
unfoldable pub number : Mode → ℕ
number emc = 0
number upper = 1
number mid = 2
number lower = 3
number proximity = 4
number surface = 5
number extended = 6
number diagnostic = 7

-- the mode of a number below 8
unfoldable pub mode_of : ℕ → Mode
mode_of n =
    cond (eqb n 0) emc
    (cond (eqb n 1) upper
    (cond (eqb n 2) mid
    (cond (eqb n 3) lower
    (cond (eqb n 4) proximity (cond (eqb n 5) surface (cond (eqb n 6) extended diagnostic))))))

abbrev pub same : Mode → Mode → Bool
same a b = eqb (number a) (number b)

-- "The mode's low nibble is mode, plus 8 if locked"
unfoldable pub nibble : Mode → Bool → ℕ
nibble mode locked = cond locked (number mode + 8) (number mode)

-- "altitude without bit 15"
abbrev pub height : ℕ → ℕ
height altitude = altitude % 32768

-- "the target is 4 if altitude without bit 15 is at most 700 (7 km) or T >= 7200; else 3 if T >= 5100; else 2 if T >= 600;
-- else 1"
unfoldable pub target : ℕ → ℕ → Mode
target t altitude =
    cond (leb (height altitude) 700 || leb 7200 t) proximity (cond (leb 5100 t) lower (cond (leb 600 t) mid upper))

-- "The mode becomes the greater of itself and the target"
unfoldable pub greater : Mode → Mode → Mode
greater a b = cond (leb (number a) (number b)) b a

-- "Each change .. is an entry: it stores SSP time, altitude word and the old mode (plus 8 if it was locked)."
pub record Entry : Type 0 where
  pub time : ℕ
  pub altitude : ℕ
  pub old : ℕ

-- where the controller stands: the mode, its last entry and the reference second, which only mode 5 reads
pub record Standing : Type 0 where
  pub mode : Mode
  pub locked : Bool
  pub entry : Entry
  pub reference : ℕ

-- what the rule looks at besides the standing: T, the altitude word, and whether an impact record is being collected
pub record Seen : Type 0 where
  pub t : ℕ
  pub altitude : ℕ
  pub collecting : Bool

-- One clause a mode. "modes 1 to 3: the target ..; mode 4 goes to 5 once T is at least 1860 above T at entry, but not while an
-- impact record is being collected; mode 5 goes to 6 once T is at least 180 above its reference second; modes 0, 6 and 7 stay."
unfoldable pub next : Mode → (entered reference : ℕ) → Seen → Mode
next upper entered reference s = greater upper (target s.t s.altitude)
next mid entered reference s = greater mid (target s.t s.altitude)
next lower entered reference s = greater lower (target s.t s.altitude)
next proximity entered reference s = cond (not s.collecting && leb (entered + 1860) s.t) surface proximity
next surface entered reference s = cond (leb (reference + 180) s.t) extended surface
next emc entered reference s = emc
next extended entered reference s = extended
next diagnostic entered reference s = diagnostic

-- the mode that an accepted broadcast leads to: "if unlocked"
unfoldable pub ruled : Standing → Seen → Mode
ruled g s = cond g.locked g.mode (next g.mode (seconds_of g.entry.time) g.reference s)

-- An entry. "The reference second of mode 5 is T at impact if the record's end caused the entry, else T at entry": whoever
-- enters says which.
unfoldable pub entered : Standing → Mode → Bool → (ssp altitude reference : ℕ) → Standing
entered g mode locked ssp altitude reference =
    record {
      mode = mode;
      locked = locked;
      entry = record { time = ssp; altitude = altitude; old = nibble g.mode g.locked };
      reference = reference;
    }
