use mathlib.Core.Path.{sym}
use Rattle.finding.specs.LevelLaws.{flag_one, flag-other}
use Rattle.finding.proofs.level.flag_level.Goals as goal

pub returns-then-flag-eq1 : goal.returns-then-flag-eq1
returns-then-flag-eq1 c = sym (flag_one _ c.if-flag-eq1.true)

pub returns-else-flag-eq1 : goal.returns-else-flag-eq1
returns-else-flag-eq1 c = sym (flag-other _ c.if-flag-eq1.false)
