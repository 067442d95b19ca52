-- The loop's invariant: what is left of the sweep tells what the exploration tells, and the states found are indexed.
use Rattle.std.specs.Prelude.{◌-◌}
use Rattle.finding.specs.StatesExploring.{memory_of, InSweep}
use Rattle.finding.specs.NumberIndex.{Indexed}
use Rattle.finding.proofs.states.States.sweep.Given as goal

abbrev pub invariant-loop-s : goal.invariant-loop-s
invariant-loop-s l =
    InSweep l.images.rows.now l.images.standings l.images.lists l.limit (memory_of l.initial.self l.initial.table) l.s l.n
    (memory_of l.self l.table)
    × Indexed l.self.found l.n l.self.index.heads l.self.index.nexts

abbrev pub decreases-loop-s : goal.decreases-loop-s
decreases-loop-s l =
    l.limit - l.s
