-- The loop's invariant: what has been joined, with what is reached from the states left, is what is reached from all (SumsLeft). The measure
-- is the states left.
use Rattle.verdict.specs.SumsLaws.{SumsLeft}
use Rattle.verdict.proofs.sums.ended_of.Given as goal

abbrev pub invariant-loop-rest : goal.invariant-loop-rest
invariant-loop-rest l = SumsLeft l.ended l.sums l.ends l.all l.rest l.at

abbrev pub decreases-loop-rest : goal.decreases-loop-rest
decreases-loop-rest l = l.rest
