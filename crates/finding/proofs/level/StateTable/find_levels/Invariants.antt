-- The loop's invariant: the levels are known as far as they go.
use Rattle.std.specs.Prelude.{◌≡◌, length}
use Rattle.theory.specs.Level.{Known}
use Rattle.finding.specs.Find.{deterministic}
use Rattle.finding.specs.LevelTold.{most_level, level_at}
use Rattle.finding.proofs.level.StateTable.find_levels.Given as goal

abbrev pub invariant-loop : goal.invariant-loop
invariant-loop l =
    (length l.levels ≡ 256) × Known (deterministic l.self.states l.self.lists l.self.table.now l.self.flags.now) most_level (level_at l.levels)
