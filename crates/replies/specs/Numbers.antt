-- Document 01, "Where an answer is an enum, a definition gives this paper's number and values for each of its cases": the number
-- of each reply, of the controller and of the reader.
-- Assumes nothing.
use Rattle.std.specs.Prelude.{ℕ, Result, Ok, Err}
use Rattle.replies.specs.declared.Refusal.{Refusal}
use Rattle.replies.specs.declared.Refusal.TheVariants as Controller
use Rattle.replies.specs.declared.ReaderRefusal.{ReaderRefusal}
use Rattle.replies.specs.declared.ReaderRefusal.TheVariants as Reader
use Rattle.replies.specs.declared.Heard.{Heard}
use Rattle.replies.specs.declared.Heard.TheVariants.{Taken, HandedOut}

abbrev pub refused_with : Refusal → ℕ
refused_with Controller.NoFrame = 1
refused_with Controller.NotCarried = 2
refused_with Controller.WrongLength = 3
refused_with Controller.OutOfRange = 4
refused_with Controller.TimeBack = 5
refused_with Controller.NotInThisMode = 6
refused_with Controller.NoRoom = 7
refused_with Controller.ShortOutput = 8
refused_with Controller.NothingWaits = 9
refused_with Controller.UnfitState = 10

abbrev pub spurned_with : ReaderRefusal → ℕ
spurned_with Reader.NoPacket = 20
spurned_with Reader.NotCarried = 21
spurned_with Reader.Repeat = 22
spurned_with Reader.Spoilt = 23
spurned_with Reader.ShortOutput = 24
spurned_with Reader.UnfitState = 25

abbrev pub heard_as : Heard → ℕ
heard_as Taken = 0
heard_as HandedOut = 1

-- a reply is the number of what it came to, accepted or refused
abbrev pub number_of : {T E : Type 0} → (T → ℕ) → (E → ℕ) → Result T E → ℕ
number_of t e (Ok x) = t x
number_of t e (Err r) = e r

-- "0 accepted"
abbrev pub reply : Result (Unit {0}) Refusal → ℕ
reply = number_of (λ x. 0) refused_with

abbrev pub heard_reply : Result Heard ReaderRefusal → ℕ
heard_reply = number_of heard_as spurned_with

-- "it replies 0 with a fresh state, .. or 10 (the reader 25)": the reader's start
abbrev pub started_reply : Result (Unit {0}) ReaderRefusal → ℕ
started_reply = number_of (λ x. 0) spurned_with
