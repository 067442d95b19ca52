-- The loop's invariant: what is told of the lists below v.
use Rattle.finding.specs.LevelTold.{LeastNext}
use Rattle.finding.proofs.level.StateTable.least_next.Given as goal

abbrev pub invariant-loop-v : goal.invariant-loop-v
invariant-loop-v l =
    LeastNext l.self.table.now l.v l.s l.levels l.least
