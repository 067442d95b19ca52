-- A refusal's number is small, so there is room for the line behind it.
use Rattle.syntax.specs.NumberLaws.{number-few}
use native.Mathlib.Omega.{arith}
use Rattle.server.proofs.packed.refused.Goals as goal

pub overflow_add-result : goal.overflow_add-result
overflow_add-result c = omega (arith, c.number.ensures, number-few c.args.told.refusal)

pub returns : goal.returns
returns c = omega (arith, c.number.ensures)
