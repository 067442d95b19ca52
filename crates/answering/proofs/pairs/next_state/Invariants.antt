-- `next_state` meets its contract. The loop's invariant: no state from the given one on and before s is had.
use Rattle.std.specs.Prelude.{◌-◌, ◌≤◌}
use Rattle.answering.specs.NextState.{Passed}
use Rattle.answering.proofs.pairs.next_state.Given as goal

abbrev pub invariant-loop-s : goal.invariant-loop-s
invariant-loop-s l = (l.from ≤ l.s) × Passed l.words l.pairs l.x l.from l.s

abbrev pub decreases-loop-s : goal.decreases-loop-s
decreases-loop-s l = l.most - l.s
