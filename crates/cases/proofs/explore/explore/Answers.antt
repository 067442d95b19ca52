use mathlib.Core.Path.{◌∙◌}
use lib.ListN.{length-set}
use Rattle.cases.proofs.explore.explore.Goals as goal

pub shape_of-found : goal.shape_of-found
shape_of-found c = c.loop-i.invariant.1 ∙ length-set c.args.found.now 0 1
