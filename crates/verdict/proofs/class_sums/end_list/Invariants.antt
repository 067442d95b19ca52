-- The loop's invariant: the classes of the occurrences that are not left gained the list (EndsLeft).
use Rattle.std.specs.Prelude.{◌≡◌, ◌^◌, ◌<◌, length}
use Rattle.verdict.specs.ClassSumsTurns.{EndsLeft}
use Rattle.verdict.proofs.class_sums.end_list.Given as goal

abbrev pub invariant-loop-i : goal.invariant-loop-i
invariant-loop-i l =
    (goal.iterator-loop-i).can_next l.i-iterator × (goal.iterator-loop-i).is_finite l.i-iterator × (l.i-iterator.rest < 2 ^ 64) × (length l.ends ≡ 64) × EndsLeft l.set l.base l.v l.classes l.initial.ends l.ends l.i-iterator.rest
