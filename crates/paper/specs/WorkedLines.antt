-- The words in which worked examples are written: tables of what is given and what comes back, in bytes alone, so that they know
-- nothing of how the definitions are built. A table is read from top to bottom: one controller, or one reader, started afresh, is
-- given each line's frame in turn. Every "then" was worked out by hand from document 01 and the manual.
--
--     "01 0A 0960 02BD 00 00" gets 0            reply 0, nothing written
--     "06 0A 5A 07" gives "655A"                reply 0, and just these bytes are written
--     "05 0A" from 38 shows "01 07"             reply 0, and these bytes stand in what is written from place 38 on
-- Assumes nothing.
use Rattle.std.specs.Prelude.{◌≡◌, Bool, true, false, cond, ◌&&◌, List, [], ◌∷◌, ◌++◌, map, ℕ, zero, suc, ◌+◌, ◌-◌, ◌*◌, ◌/◌, ◌%◌, eqb, ltb, length, take, drop}
use Prim.Native.Char.{Char, code}
use Prim.Native.String.{String, [] as no_text, ◌∷◌ as ◌then◌}
use Rattle.wire.specs.Wire.{bytes16}
use Rattle.paper.specs.Controller.{Controller, start}
use Rattle.paper.specs.Step.{Outcome, step}
use Rattle.paper.specs.Reader.{Reader, ReaderOutcome, reader_start, reader_step}

-- ---- bytes as text

-- the value of a hexadecimal digit, in capitals
abbrev pub digit : Char → ℕ
digit c = cond (ltb (code c) 58) (code c - 48) (code c - 55)

-- the digits of a text; blanks stand anywhere
abbrev pub digits : String → List ℕ
digits no_text = []
digits (c then cs) = cond (eqb (code c) 32) (digits cs) (digit c ∷ digits cs)

-- two digits a byte
abbrev pub paired : List ℕ → List ℕ
paired [] = []
paired (h ∷ []) = []
paired (h ∷ l ∷ ds) = (h * 16 + l) ∷ paired ds

abbrev pub hex : String → List ℕ
hex s = paired (digits s)

-- n numbers from k on
abbrev pub upward : ℕ → ℕ → List ℕ
upward k zero = []
upward k (suc n) = k ∷ upward (suc k) n

-- readings as the digits that they are packed to: "123, ABC pack to 123ABC"
abbrev pub three_digits : List ℕ → List ℕ
three_digits [] = []
three_digits (r ∷ rs) = (r / 256) ∷ (r / 16 % 16) ∷ (r % 16) ∷ three_digits rs

abbrev pub packed : List ℕ → List ℕ
packed rs = paired (three_digits rs)

-- ---- lines

-- What is given, with an output of how many bytes; the reply; which part of what is written is looked at, and what stands there.
pub record Line : Type 0 where
  pub given : List ℕ
  pub room : ℕ
  pub reply : ℕ
  pub part : List ℕ → List ℕ
  pub said : List ℕ

abbrev pub line : List ℕ → ℕ → List ℕ → Line
line f n said = record { given = f; room = 776; reply = n; part = λ o. o; said = said }

infix 80 ◌gets◌
abbrev pub ◌gets◌ : String → ℕ → Line
f gets n = line (hex f) n []

infix 80 ◌gives◌
abbrev pub ◌gives◌ : String → String → Line
f gives o = line (hex f) 0 (hex o)

infix 80 ◌from◌shows◌
abbrev pub ◌from◌shows◌ : String → ℕ → String → Line
f from at shows o =
    record { given = hex f; room = 776; reply = 0; part = λ w. take (length (hex o)) (drop at w); said = hex o }

-- an output of so many bytes lent with it
infix 75 ◌lent◌
abbrev pub ◌lent◌ : Line → ℕ → Line
l lent n = record { given = l.given; room = n; reply = l.reply; part = l.part; said = l.said }

-- lines once more, n times in all
abbrev pub times : ℕ → List Line → List Line
times zero ls = []
times (suc n) ls = ls ++ times n ls

-- a tick for each reading, all accepted
abbrev pub tick_each : List ℕ → List Line
tick_each rs = map (λ r. line (0x03 ∷ bytes16 r) 0 []) rs

-- The polls on a channel (its byte and its packet ID) that bring a packet's pieces one after the other: that channel's telemetry counts
-- go on from n, the stream's counts from k, and each poll shows the next 118 bytes of the packet, which is given with its fill.
abbrev pub polls : (cc id : ℕ) → (s n k pieces : ℕ) → List ℕ → List Line
polls cc id s n k zero packet = []
polls cc id s n k (suc pieces) packet =
    line (0x05 ∷ cc ∷ []) 0
    (bytes16 id ++ bytes16 (0xC000 + n) ++ hex "0077" ++ bytes16 (16 * k + s) ++ take 118 packet)
    ∷ polls cc id s (suc n) (suc k) pieces (drop 118 packet)

abbrev pub polls_a : (s n k pieces : ℕ) → List ℕ → List Line
polls_a = polls 0x0A 0x0F94

abbrev pub polls_b : (s n k pieces : ℕ) → List ℕ → List Line
polls_b = polls 0x0B 0x0FB4

-- ---- what a table says

abbrev pub same_bytes : List ℕ → List ℕ → Bool
same_bytes [] [] = true
same_bytes [] (y ∷ ys) = false
same_bytes (x ∷ xs) [] = false
same_bytes (x ∷ xs) (y ∷ ys) = eqb x y && same_bytes xs ys

-- what is given is of bytes
abbrev pub are_bytes : List ℕ → Bool
are_bytes [] = true
are_bytes (x ∷ xs) = ltb x 256 && are_bytes xs

-- Of a machine that answers a frame, given with a length of output, and goes on: the numbers of the lines, from n on, to which it
-- answers otherwise than they say (or that give no bytes).
abbrev pub otherwise : {M : Type 0} → (M → List ℕ → ℕ → ℕ × List ℕ × M) → M → ℕ → List Line → List ℕ
otherwise answer m n [] = []
otherwise answer m n (l ∷ ls) =
    let o = answer m l.given l.room in
    let later : List ℕ = otherwise answer o.2 (suc n) ls in
    cond (are_bytes l.given && (eqb o.0 l.reply && same_bytes (l.part o.1) l.said)) later (n ∷ later)

abbrev pub as_controller : Controller → List ℕ → ℕ → ℕ × List ℕ × Controller
as_controller c f room = let o : Outcome = step c f room in (o.reply, o.out, o.next)

abbrev pub as_reader : Reader → List ℕ → ℕ → ℕ × List ℕ × Reader
as_reader r f room = let h : ReaderOutcome = reader_step r f room in (h.reply, h.out, h.next)

-- Of a machine that starts afresh for each of some tables, given with their names: the first table that it answers otherwise than it
-- says, by its name and the numbers of those lines. What comes after that is not played, so that a wrong definition is found soon.
abbrev pub or_later : String → List ℕ → List (String × List ℕ) → List (String × List ℕ)
or_later name [] later = later
or_later name (n ∷ ns) later = (name, n ∷ ns) ∷ []

abbrev pub first_wrong : {M : Type 0} → (M → List ℕ → ℕ → ℕ × List ℕ × M) → M → List (String × List Line) → List (String × List ℕ)
first_wrong answer m [] = []
first_wrong answer m (t ∷ ts) = or_later t.0 (otherwise answer m 1 t.1) (first_wrong answer m ts)

-- a fresh controller, and a fresh reader, answer every line of every table as it says
abbrev pub Answers : List (String × List Line) → Type 0
Answers ts = first_wrong as_controller start ts ≡ []

abbrev pub Hears : List (String × List Line) → Type 0
Hears ts = first_wrong as_reader reader_start ts ≡ []
