-- A pair has 18 words, the last of which is the link.
use Rattle.std.specs.Prelude.{◌+◌, ◌*◌}
use mathlib.Core.Path.{sym}
use lib.ListN.{get_or-eq_default}
use native.Mathlib.Omega.{arith}
use Rattle.verdict.proofs.path.link.Goals as goal

pub overflow_mul-result : goal.overflow_mul-result
overflow_mul-result c = omega (arith, c.if-i-workspace.true, c.well_formed.0.0)

pub overflow_add-result : goal.overflow_add-result
overflow_add-result c = omega (arith, c.if-i-workspace.true, c.well_formed.0.0)

pub bounds-workspace-i : goal.bounds-workspace-i
bounds-workspace-i c = omega (arith, c.if-i-workspace.true)

pub returns-else-i-workspace : goal.returns-else-i-workspace
returns-else-i-workspace c = sym (get_or-eq_default c.args.workspace.now 0 {n = 18 * c.args.i + 17} (omega (arith, c.if-i-workspace.false)))
