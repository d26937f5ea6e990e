-- Laws of what is to come of a chunk while its text is written part by part. Assumes nothing.
use mathlib.Core.Path.{◌≡◌, sym, ap, ◌∙◌}
use mathlib.Core.List.{List, [], ◌++◌, append_assoc}
use Prim.Native.Nat.{ℕ, ◌+◌, ◌≤◌}
use native.Mathlib.Omega.{arith}
use lib.ListN.{length, length-append, drop}
use Rattle.lines.specs.Lines.{LineSoFar}
use Rattle.lines.specs.Talk.{Way, Talk, talk}
use Rattle.lines.proofs.Talk.{talk-text}
use Rattle.programs.specs.Programs.{longest}
use Rattle.answering.specs.Machines.{answer_to}
use Rattle.answering.specs.declared.Machine.{Machine}

module _ (a : Way) where
  -- the text t is written, and u is the next part of what is to come: then t and u are written
  pub next-part : (t u : List ℕ) (l l' : LineSoFar) (s s' i j : List ℕ) → talk longest a u l' s' j ≡ talk longest a [] l s i
      → talk longest a (t ++ u) l' s' j ≡ talk longest a t l s i
  next-part t u l l' s s' i j e =
      let k = talk longest a [] l' s' j in
      talk-text longest a (t ++ u) l' s' j
      ∙ ap (λ (x : List ℕ). record { text = x; line = k.line; state = k.state }) (append_assoc t u k.text)
      ∙ ap (λ (x : Talk). record { text = t ++ x.text; line = x.line; state = x.state }) (sym (talk-text longest a u l' s' j) ∙ e)
      ∙ sym (talk-text longest a t l s i)

  -- what is written is the beginning of the whole text
  pub written-first : (t : List ℕ) (l : LineSoFar) (s i : List ℕ) (k : Talk) → talk longest a t l s i ≡ k → length t ≤ length k.text
  written-first t l s i k e =
      let f : length k.text ≡ length t + length (talk longest a [] l s i).text = ap (λ (x : Talk). length x.text) (sym e ∙ talk-text longest a t l s i) ∙ length-append t (talk longest a [] l s i).text in
      omega arith

-- in the midst of a chunk, at index `at`: the text that the output took so far, `said` bytes, and what is still to come behind it
pub record SoFar (m : Machine) (k : Talk) (at said : ℕ) (chunk : List ℕ) (line : LineSoFar) (state : List ℕ) : Type 0 where
  pub text : List ℕ
  pub count : length text ≡ said
  pub rest : talk longest (answer_to m) text line state (drop at chunk) ≡ k
