-- `entry::enter` meets its contract: the mode that is entered is the fourth where the bits of the nibble say so.
-- Assumes nothing.
use Rattle.std.proofs.Common.{◌≡◌, ◌%◌, true, false, eqb, sym, ◌∙◌}
use Rattle.paper.specs.Mode.{number}
use Rattle.modes.specs.Meaning.{bits}
use Rattle.modes.specs.declared.Mode.TheVariants.{Proximity}
use Rattle.modes.proofs.Order.{in_mode}
use Rattle.machine.specs.Entered.{entered_on}
use Rattle.entry.proofs.enter.Goals as goal

pub returns-then-eq : goal.returns-then-eq
unfolding entered_on number
returns-then-eq c =
    let e : eqb (bits c.args.nibble % 8) 4 ≡ true = sym (c.eq.ensures ∙ in_mode c.args.nibble Proximity) ∙ c.if-eq.true in
    rw e (c.empty.ensures ∙ rw c.note.ensures)

pub returns-else-eq : goal.returns-else-eq
unfolding entered_on number
returns-else-eq c =
    let e : eqb (bits c.args.nibble % 8) 4 ≡ false = sym (c.eq.ensures ∙ in_mode c.args.nibble Proximity) ∙ c.if-eq.false in
    rw e c.note.ensures
