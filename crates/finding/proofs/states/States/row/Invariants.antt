-- The loop's invariant: what is left of the row and of the sweep tells what the exploration tells, and the states found are indexed.
use Rattle.finding.specs.StatesExploring.{memory_of, InRow}
use Rattle.finding.specs.NumberIndex.{Indexed}
use Rattle.finding.proofs.states.States.row.Given as goal

abbrev pub invariant-loop-list : goal.invariant-loop-list
invariant-loop-list l =
    InRow l.images.rows.now l.images.standings l.images.lists l.limit l.s l.n (memory_of l.initial.self l.initial.table) l.list l.m
    (memory_of l.self l.table)
    × Indexed l.self.found l.m l.self.index.heads l.self.index.nexts
