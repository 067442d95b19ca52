-- The loop's invariant: the classes found, with those of the places left, are those of the set (ClassesLeft).
use Rattle.std.specs.Prelude.{◌^◌, ◌<◌}
use Rattle.verdict.specs.ClassesTurns.{ClassesLeft}
use Rattle.verdict.proofs.classes.classes_of.Given as goal

abbrev pub invariant-loop-p : goal.invariant-loop-p
invariant-loop-p l =
    (goal.iterator-loop-p).can_next l.p-iterator × (goal.iterator-loop-p).is_finite l.p-iterator × (l.p-iterator.rest < 2 ^ 64) × ClassesLeft l.classes l.base l.set l.all l.p-iterator.rest
