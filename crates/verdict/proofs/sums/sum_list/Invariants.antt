-- The loop's invariant: the first k times four words are summed.
use Rattle.std.specs.Prelude.{◌≡◌, length}
use Rattle.verdict.specs.Sums.{ListSummed}
use Rattle.verdict.proofs.sums.sum_list.Given as goal

abbrev pub invariant-loop-k : goal.invariant-loop-k
invariant-loop-k l = (length l.ended ≡ length l.initial.ended) × ListSummed l.from l.at l.k l.initial.ended l.ended
