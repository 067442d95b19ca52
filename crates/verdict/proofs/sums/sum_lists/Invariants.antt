-- The loop's invariant: the sums of the lists before v are put down (SumsBefore).
use Rattle.std.specs.Prelude.{◌≡◌, length}
use Rattle.verdict.specs.SumsLaws.{SumsBefore}
use Rattle.verdict.proofs.sums.sum_lists.Given as goal

abbrev pub invariant-loop-v : goal.invariant-loop-v
invariant-loop-v l = (length l.ended ≡ length l.initial.ended) × SumsBefore l.lists l.n l.initial.ended l.ended l.v
