-- The loop's invariant: those of the lists before v that have the empty path lead to states that do not come before q.
use Rattle.verdict.specs.PassingTurns.{RowOnward}
use Rattle.verdict.proofs.passing.row_onward.Given as goal

abbrev pub invariant-loop-v : goal.invariant-loop-v
invariant-loop-v l = RowOnward l.accepting l.table l.q l.v
