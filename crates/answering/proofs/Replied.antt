-- What a call of the reader replies, read off what it did. Assumes nothing.
use mathlib.Core.Path.{◌≡◌, sym, subst}
use mathlib.Core.List.{List}
use Prim.Native.Nat.{ℕ}
use Rattle.lent.specs.Told.{Res}
use Rattle.shelf.specs.Received.{read_of}
use Rattle.shelf.proofs.Replies.{Told, replies}

pub replied : (s f o : List ℕ) (r : Res) → r ≡ read_of s f o → Told r.reply f
replied s f o r e = subst (λ (x : Res). Told x.reply f) (sym e) (replies s f o)
