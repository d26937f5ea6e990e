-- Laws of what comes of what reads bring, one after the other. Assumes nothing.
use Rattle.std.proofs.Common.{◌≡◌, refl, sym, ap, ◌∙◌, Bool, true, false, ◌&&◌, true≢false, Result, Ok, Err, ℕ, List, [], ◌∷◌, ◌++◌, length}
use Rattle.std.specs.Result.{is_ok}
use borrow.Author.Tests.{ne_eqb}
use Rattle.lines.specs.Lines.{LineSoFar, kept, over}
use Rattle.lines.specs.Talk.{Way, Talk, talk}
use Rattle.lines.proofs.Talk.{talk-text, talk-append, last-feed}
use Rattle.hexline.specs.Open.{count_of}
use Rattle.programs.specs.Programs.{longest}
use Rattle.answering.specs.Machines.{answer_to, begun}
use Rattle.answering.specs.declared.Machine.{Machine}
use Rattle.incoming.specs.Brought.{Brought, input, the_end, failed, brings, fed}
use Rattle.saying.specs.Served.{Served}
use Rattle.dialogue.specs.Loop.{comes, after}

module _ (a : Way) where
  -- more input goes on with the line and the state that are left, whatever was written
  pub goes_on : (i j : List ℕ) (s s' : List ℕ) (l : LineSoFar) → l ≡ (talk longest a [] (kept []) s i).line → s' ≡ (talk longest a [] (kept []) s i).state
      → ((talk longest a [] l s' j).line ≡ (talk longest a [] (kept []) s (i ++ j)).line) × ((talk longest a [] l s' j).state ≡ (talk longest a [] (kept []) s (i ++ j)).state)
  goes_on i j s s' l el es =
      let k = talk longest a [] (kept []) s i in
      let e = talk-append longest a [] (kept []) s i j ∙ talk-text longest a k.text k.line k.state j in (
        rw (el, es) (sym (ap (λ (x : Talk). x.line) e)),
        rw (el, es) (sym (ap (λ (x : Talk). x.state) e)),
      )

-- what comes of what a read brought is what comes of what is answered then
pub fed-comes : (m : Machine) (l : LineSoFar) (s : List ℕ) (b : Brought)
    → talk longest (answer_to m) [] l s (fed (count_of longest l) b) ≡ comes m b l s
unfolding talk
fed-comes m l s (input i) = refl
fed-comes m l s failed = refl
fed-comes m (kept []) s the_end = refl
fed-comes m (kept (c ∷ l)) s the_end =
    rw (ne_eqb (length (c ∷ l)) 0 (λ e. cc)) (last-feed longest (answer_to m) (kept (c ∷ l)) s (λ e. cc))
fed-comes m over s the_end = last-feed longest (answer_to m) over s (λ e. cc)

-- a run so far: what its reads brought, and that the line open and the state are those that it leaves
pub record Reached (m : Machine) (line : LineSoFar) (state : List ℕ) : Type 0 where
  pub all : List ℕ
  pub line_is : line ≡ (after m all).line
  pub state_is : state ≡ (after m all).state

-- from the beginning
pub reached_none : (m : Machine) (line : LineSoFar) (state : List ℕ) → line ≡ kept [] → state ≡ begun m → Reached m line state
unfolding talk
reached_none m line state l e = record { all = []; line_is = l; state_is = e }

-- what brought no bytes is not read on after
nothing : (x : Bool) → (x && false) ≡ true → ⊥
nothing true p = true≢false (sym p)
nothing false p = true≢false (sym p)

-- a read that brought bytes, all answered
pub reached_more : (m : Machine) (line : LineSoFar) (state : List ℕ) (line' : LineSoFar) (state' : List ℕ) (b : Brought) (r : Result ℕ ℕ) → Reached m line state
    → Served (comes m b line state) line' state' r → (is_ok r && brings b) ≡ true → Reached m line' state'
reached_more m line state line' state' (input i) (Ok said) r s o =
    let g = goes_on (answer_to m) r.all i (begun m) state line r.line_is r.state_is in
    record { all = r.all ++ i; line_is = s.line_left ∙ g.0; state_is = s.state_left ∙ g.1 }
reached_more m line state line' state' (input i) (Err said) r s o = absurd (true≢false (sym o))
reached_more m line state line' state' the_end w r s o = absurd (nothing (is_ok w) o)
reached_more m line state line' state' failed w r s o = absurd (nothing (is_ok w) o)
