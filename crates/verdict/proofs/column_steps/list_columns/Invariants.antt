-- The loop's invariant: the occurrences that the label enters have their columns, but those of `rest` (ColumnsLeft).
use Rattle.std.specs.Prelude.{◌≡◌, ◌^◌, ◌<◌, length}
use Rattle.verdict.specs.ColumnLists.{ColumnsLeft}
use Rattle.verdict.specs.TurnedColumns.{column_in}
use Rattle.verdict.proofs.column_steps.list_columns.Given as goal

abbrev pub invariant-loop-i : goal.invariant-loop-i
invariant-loop-i l =
    (goal.iterator-loop-i).can_next l.i-iterator × (goal.iterator-loop-i).is_finite l.i-iterator × (l.i-iterator.rest < 2 ^ 64) × (length l.words ≡ 16)
    × ColumnsLeft l.v l.size l.base l.entered l.accepting l.before l.columns (column_in l.n l.initial.words) (column_in l.n l.words) l.ends l.i-iterator.rest
