-- The loop's invariant: from the states before q, the lists with the empty path lead to no state before.
use Rattle.verdict.specs.PassingTurns.{Onward}
use Rattle.verdict.proofs.passing.onward.Given as goal

abbrev pub invariant-loop-q : goal.invariant-loop-q
invariant-loop-q l = Onward l.q l.lists l.accepting l.table
