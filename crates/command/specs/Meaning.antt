-- Document 01, "Where an answer is an enum, a definition gives this paper's number and values for each of its cases":
-- the case of the paper that each case of the code stands for.
-- Assumes nothing.
use Rattle.std.specs.Prelude.{Result, Ok, Err}
use Rattle.paper.specs.Commands as Paper
use Rattle.modes.specs.Meaning.{bits}
use Rattle.replies.specs.declared.Refusal.{Refusal}
use Rattle.replies.specs.Numbers.{refused_with}
use Rattle.command.specs.declared.Request.{Request}
use Rattle.command.specs.declared.Request.TheVariants.{Clear, Housekeeping, SetMode}

abbrev pub asked : Request → Paper.Request
asked (Clear mask) = Paper.clear mask
asked Housekeeping = Paper.housekeeping
asked (SetMode nibble) = Paper.set_mode (bits nibble)

abbrev pub meant : Result Request Refusal → Paper.Decoded
meant (Ok q) = Paper.request (asked q)
meant (Err r) = Paper.refusal (refused_with r)
