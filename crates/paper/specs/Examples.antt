-- Document 01, "Examples": the items marked P, one list with one claim; and the session on the definitions.
-- Assumes nothing.
use Rattle.std.specs.Prelude.{◌≡◌, Bool, true, false, cond, List, [], ◌∷◌, ◌++◌, map, ℕ, negsuc, eqb, replicate, take, drop}
use Rattle.wire.specs.Wire.{bytes16}
use Rattle.paper.specs.Clock.{seconds, ssp_time}
use Rattle.paper.specs.Mode.{number}
use Rattle.paper.specs.Impact.{signed, above}
use Rattle.paper.specs.Packets.{pack}
use Rattle.paper.specs.Controller.{Controller, start}
use Rattle.paper.specs.Reader.{reader_start}
use Rattle.paper.specs.Runs.{Call, call, runs, replies, readings}

-- what the definitions give, and what the paper says
pub record Example : Type 1 where
  pub kind : Type 0
  pub got : kind
  pub said : kind

abbrev pub gives : {X : Type 0} → X → X → Example
gives {X} got said = record { kind = X; got = got; said = said }

abbrev pub Hold : List Example → Type 0
Hold [] = Unit {0}
Hold (e ∷ es) = (e.got ≡ e.said) × Hold es

-- ---- frames

-- frames as calls, each with an output of 126 bytes
abbrev pub calls_for : List (List ℕ) → List Call
calls_for = map (λ f. call f 126)

-- a broadcast on A
abbrev pub broadcasting : ℕ → ℕ → List ℕ
broadcasting time altitude = 0x01 ∷ 0x0A ∷ (bytes16 time ++ bytes16 altitude ++ (0 ∷ 0 ∷ []))

abbrev pub ticking : ℕ → List ℕ
ticking r = 0x03 ∷ bytes16 r

abbrev pub setting : ℕ → List ℕ
setting mode = 0x02 ∷ 0x0A ∷ 0x00 ∷ 0x32 ∷ 0x00 ∷ 0x01 ∷ bytes16 mode

-- ---- what is looked at

-- the mode of a fresh controller after a broadcast
unfoldable pub mode_after : ℕ → ℕ → ℕ
mode_after time altitude = number (runs start (calls_for (broadcasting time altitude ∷ []))).standing.mode

-- the impact flag after each of some readings, from an entry to mode 4 on
unfoldable pub flags : Controller → List ℕ → List Bool
flags c [] = []
flags c (r ∷ rs) =
    let d : Controller = runs c (calls_for (ticking r ∷ [])) in
    d.impact.flag ∷ flags d rs

unfoldable pub flags_from4 : List ℕ → List Bool
flags_from4 rs = flags (runs start (calls_for (setting 4 ∷ []))) rs

-- two ACC-E packets, of 512 bytes 01 and 512 bytes 02, taken in mode 5 and polled on B: the ten pieces
unfoldable pub ten_pieces : List (List ℕ)
ten_pieces =
    map (λ o. o.1)
    (drop 3
    (replies start
    (calls_for
    (setting 5 ∷ (0x04 ∷ 0x0B ∷ replicate 512 0x01) ∷ (0x04 ∷ 0x0B ∷ replicate 512 0x02) ∷ replicate 10 (0x05 ∷ 0x0B ∷ [])))))

-- what a fresh reader hands out of some packets
unfoldable pub packets_out : List (ℕ × List ℕ) → List (List ℕ)
packets_out [] = []
packets_out (h ∷ hs) = cond (eqb h.0 1) (h.1 ∷ packets_out hs) (packets_out hs)

-- pieces 0, 1, 3 to 9
unfoldable pub without_third : List (List ℕ) → List (List ℕ)
without_third ps = packets_out (readings reader_start (map (λ f. call f 776) (take 2 ps ++ drop 3 ps)))

-- ---- the list

abbrev pub examples : List Example
examples =
    -- "time 0960 to 0963: T 600; SSP time 096000", "095C: T 599"
    gives (map seconds (0x0960 ∷ 0x0961 ∷ 0x0962 ∷ 0x0963 ∷ [])) (600 ∷ 600 ∷ 600 ∷ 600 ∷ [])
    ∷ gives (ssp_time (seconds 0x0960) 0) 0x096000
    ∷ gives (seconds 0x095C) 599
    -- "fresh, 0960, altitude 02BD: mode 2", "02BC or 82BC: mode 4"
    ∷ gives (mode_after 0x0960 0x02BD) 2
    ∷ gives (mode_after 0x0960 0x02BC) 4
    ∷ gives (mode_after 0x0960 0x82BC) 4
    -- "fresh, 4FB0 with 02BD: mode 3", "fresh, 7080 with 02BD: mode 4"
    ∷ gives (mode_after 0x4FB0 0x02BD) 3
    ∷ gives (mode_after 0x7080 0x02BD) 4
    -- "80 not above, 81 above", "0FFF is -1"
    ∷ gives (above 80) false
    ∷ gives (above 81) true
    ∷ gives (signed 0x0FFF) (negsuc 0)
    -- "81 81 0 0 81: impact at the fifth", "81 81 0 0 0 81: none"
    ∷ gives (flags_from4 (81 ∷ 81 ∷ 0 ∷ 0 ∷ 81 ∷ [])) (false ∷ false ∷ false ∷ false ∷ true ∷ [])
    ∷ gives (flags_from4 (81 ∷ 81 ∷ 0 ∷ 0 ∷ 0 ∷ 81 ∷ [])) (replicate 6 false)
    -- "123, ABC pack to 123ABC"
    ∷ gives (pack (0x123 ∷ 0xABC ∷ [])) (0x12 ∷ 0x3A ∷ 0xBC ∷ [])
    -- "ACC-E pieces 0, 1, 3 to 9: only the second packet"
    ∷ gives (without_third ten_pieces)
    ((0x88 ∷ 0x88 ∷ 0 ∷ 0 ∷ 0 ∷ 0x15 ∷ (replicate 512 0x02 ++ (0x99 ∷ 0x99 ∷ []))) ∷ [])
    ∷ []

-- "The items marked P are one list with one proved claim on the definitions"
abbrev pub ExamplesHold : Type 0
ExamplesHold = Hold examples

-- ---- the session

abbrev pub session : List (List ℕ)
session =
    (0x01 ∷ 0x0A ∷ 0x09 ∷ 0x60 ∷ 0x02 ∷ 0xBD ∷ 0x00 ∷ 0x00 ∷ [])
    ∷ (0x06 ∷ 0x0A ∷ 0x5A ∷ 0x07 ∷ [])
    ∷ (0x06 ∷ 0x0B ∷ 0x5A ∷ 0x07 ∷ [])
    ∷ (0x01 ∷ 0x0A ∷ 0x09 ∷ 0x5C ∷ 0x02 ∷ 0xBD ∷ 0x00 ∷ 0x00 ∷ [])
    ∷ (0x02 ∷ 0x0A ∷ 0x00 ∷ 0x32 ∷ 0x00 ∷ 0x01 ∷ 0x00 ∷ 0x10 ∷ [])
    ∷ (0x02 ∷ 0x0A ∷ 0x00 ∷ 0x32 ∷ 0x00 ∷ 0x02 ∷ 0x00 ∷ 0x0D ∷ [])
    ∷ (0x06 ∷ 0x0A ∷ 0x5A ∷ 0x07 ∷ [])
    ∷ (0x05 ∷ 0x0A ∷ [])
    ∷ []
    ∷ []

abbrev pub session_answers : List (ℕ × List ℕ)
session_answers =
    (0x00, [])
    ∷ (0x00, 0x65 ∷ 0x5A ∷ [])
    ∷ (0x00, 0x20 ∷ 0x5A ∷ [])
    ∷ (0x05, [])
    ∷ (0x04, [])
    ∷ (0x00, [])
    ∷ (0x00, 0x7B ∷ 0x5A ∷ [])
    ∷ (0x09, [])
    ∷ (0x01, [])
    ∷ []

-- "the session, is run and compared": on the definitions too
abbrev pub SessionHolds : Type 0
SessionHolds = replies start (calls_for session) ≡ session_answers
