-- The loop's invariant: the next states of the states before q are states.
use Rattle.verdict.specs.PassingTurns.{BelowBefore}
use Rattle.verdict.proofs.passing.next_below.Given as goal

abbrev pub invariant-loop-q : goal.invariant-loop-q
invariant-loop-q l = BelowBefore l.states l.lists l.table l.q
