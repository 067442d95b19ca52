use mathlib.Core.Path.{refl}
use native.Mathlib.Omega.{arith}
use Rattle.verdict.proofs.classes.list_depths.Goals as goal

pub loop-depth-init : goal.loop-depth-init
loop-depth-init c = (omega arith, omega arith, refl)
