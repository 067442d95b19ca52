-- The loop's invariant: the columns before o stand, and the next is that at n × o (Unstacked).
use Rattle.std.specs.Prelude.{◌≡◌, ◌*◌, length}
use Rattle.places.specs.Words.{number_of}
use Rattle.verdict.specs.TurnedTurns.{Unstacked}
use Rattle.verdict.proofs.columns.columns_at.Given as goal

abbrev pub invariant-loop-o : goal.invariant-loop-o
invariant-loop-o l =
    (l.at ≡ l.n * l.o) × (length l.columns ≡ length l.initial.columns) × Unstacked l.n l.columns (number_of l.words) l.o
