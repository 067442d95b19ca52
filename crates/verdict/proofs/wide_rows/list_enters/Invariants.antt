-- The loop's invariant: the rows of the labels before a have the occurrences that they enter (ListEnters).
use Rattle.std.specs.Prelude.{◌≡◌, length}
use Rattle.verdict.specs.WideRowsPrepared.{ListEnters}
use Rattle.verdict.proofs.wide_rows.list_enters.Given as goal

abbrev pub invariant-loop-a : goal.invariant-loop-a
invariant-loop-a l =
    (length l.rows ≡ length l.initial.rows) × ListEnters l.v l.a l.size l.base l.enter l.initial.rows l.rows
