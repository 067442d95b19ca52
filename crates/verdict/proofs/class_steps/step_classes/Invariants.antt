-- The loop's invariant: the classes that the label enters have their columns, but those of `rest` (ClassesLeft).
use Rattle.std.specs.Prelude.{◌≡◌, ◌^◌, ◌<◌, length}
use Rattle.verdict.specs.ClassStepTurns.{ClassesLeft}
use Rattle.verdict.specs.TurnedColumns.{column_in}
use Rattle.verdict.proofs.class_steps.step_classes.Given as goal

abbrev pub invariant-loop-c : goal.invariant-loop-c
invariant-loop-c l =
    (goal.iterator-loop-c).can_next l.c-iterator × (goal.iterator-loop-c).is_finite l.c-iterator × (l.c-iterator.rest < 2 ^ 64) × (length l.words ≡ 16) × ClassesLeft l.n l.a l.k l.merged l.ended l.columns (column_in l.n l.words) l.alone l.c-iterator.rest
