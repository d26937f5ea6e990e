-- `console::serve_controller` is safe and ends, and serves its input from a controller that was started on zeros. Assumes nothing.
use Rattle.std.proofs.Common.{ap}
use Rattle.lent.specs.Told.{Told}
use Rattle.programs.specs.Bench.{begun}
use Rattle.console.proofs.serve_controller.Goals as goal

pub serve-requires : goal.serve-requires
unfolding begun
serve-requires c = ap (λ (x : Told). x.state) c.start.ensures
