use Rattle.std.proofs.Common.{◌∙◌, arith}
use Rattle.verdict.specs.PairTableLaws.{set-part}
use Rattle.verdict.proofs.workspace.load.Goals as goal

pub returns-then-i-workspace : goal.returns-then-i-workspace
returns-then-i-workspace c = λ h. c.copy_from_slice.ensures.after ∙ set-part c.args.workspace.now c.args.i h

pub returns-else-i-workspace : goal.returns-else-i-workspace
returns-else-i-workspace c = λ h. absurd (omega (arith, c.if-i-workspace.false))
