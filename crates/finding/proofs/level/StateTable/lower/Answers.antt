use Rattle.finding.specs.LevelLaws.{level-falls, level-stays}
use native.Mathlib.Omega.{arith}
use Rattle.finding.proofs.level.StateTable.lower.Goals as goal

pub returns-then-level-levels : goal.returns-then-level-levels
returns-then-level-levels c =
    level-falls c.requires.1 (omega (arith, c.requires.0, c.args.self.now.lent.rows.most)) c.least_next-level.ensures c.if-level-levels.true

pub returns : goal.returns
returns c =
    level-stays c.requires.1 c.least_next-level.ensures c.if-level-levels.false
