-- The loop's invariant: the offsets before o have classes below `count` (NumberedBefore).
use Rattle.std.specs.Prelude.{◌≡◌, ◌<◌, ◌≤◌, length}
use Rattle.verdict.specs.ClassesTurns.{NumberedBefore}
use Rattle.verdict.proofs.classes.number.Given as goal

abbrev pub invariant-loop-o : goal.invariant-loop-o
invariant-loop-o l =
    (0 < l.o) × (l.o ≤ l.w) × (0 < l.count) × (l.count ≤ 63) × (l.count ≤ l.o) × (length l.classes ≡ length l.initial.classes)
    × NumberedBefore l.o l.count l.initial.classes l.classes
