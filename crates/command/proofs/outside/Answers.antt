-- `command::outside` meets its contract: the bits in common with those of no stream are, one by one, those outside the table's.
-- Assumes nothing.
use borrow.Author.Rules.{rules}
use Rattle.paper.specs.Commands.{outside}
use Rattle.command.proofs.Mask.{common_and}
use Rattle.command.proofs.outside.Goals as goal

pub returns : goal.returns
unfolding outside
returns c =
    common_and c.args.mask _ 16 (search rules)
