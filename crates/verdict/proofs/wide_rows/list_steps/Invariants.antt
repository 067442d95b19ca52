-- The loop's invariant: the rows have what can come next from the places before o (ListSteps).
use Rattle.std.specs.Prelude.{◌≡◌, length}
use Rattle.verdict.specs.WideRowsPrepared.{ListSteps}
use Rattle.verdict.proofs.wide_rows.list_steps.Given as goal

abbrev pub invariant-loop-o : goal.invariant-loop-o
invariant-loop-o l =
    (length l.rows ≡ length l.initial.rows) × ListSteps l.v l.o l.size l.base l.follow l.initial.rows l.rows
