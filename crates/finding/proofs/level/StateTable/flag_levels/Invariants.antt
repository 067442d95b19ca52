-- The loop's invariant: the levels of the states below s are set.
use Rattle.finding.specs.LevelTold.{FlagLevels}
use Rattle.finding.proofs.level.StateTable.flag_levels.Given as goal

abbrev pub invariant-loop-s : goal.invariant-loop-s
invariant-loop-s l = FlagLevels l.self.flags.now l.s l.levels
