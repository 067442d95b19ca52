-- The loop's invariant: the occurrences of the lists before v have their columns (ListsLeft), and the sums of the list v stand
-- from `sums` on.
use Rattle.std.specs.Prelude.{◌≡◌, ◌+◌, ◌*◌, length}
use Rattle.verdict.specs.ColumnTurns.{ListsLeft}
use Rattle.verdict.specs.Sums.{quarters}
use Rattle.verdict.specs.TurnedColumns.{column_in}
use Rattle.verdict.proofs.column_steps.step_columns.Given as goal

abbrev pub invariant-loop-v : goal.invariant-loop-v
invariant-loop-v l =
    (length l.words ≡ 16) × ListsLeft l.tables.lists l.a l.tables.enter.now l.tables.sizes.now l.tables.accepting.now l.ways.before.now l.ways.ended.now l.columns (column_in l.tables.states l.words) l.base l.alone l.v
    × (l.sums ≡ 64 * l.tables.lists + 16 * quarters l.tables.states * l.v)
