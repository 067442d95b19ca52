-- The loop's invariant: the offsets before o have classes of their own (NumberedBefore).
use Rattle.std.specs.Prelude.{◌≡◌, ◌<◌, ◌≤◌, length}
use Rattle.verdict.specs.ClassesTurns.{NumberedBefore}
use Rattle.verdict.proofs.classes.apart.Given as goal

abbrev pub invariant-loop-o : goal.invariant-loop-o
invariant-loop-o l = (0 < l.o) × (l.o ≤ l.w) × (length l.classes ≡ length l.initial.classes) × NumberedBefore l.o l.w l.initial.classes l.classes
