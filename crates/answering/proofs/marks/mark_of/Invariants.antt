-- `mark_of` meets its contract. The loop's invariant: what is joined is 0 exactly when the words passed have nothing in common with the
-- accepting words.
use Rattle.std.specs.Prelude.{◌≡◌, not, eqb}
use Rattle.answering.specs.Marks.{meets}
use Rattle.answering.proofs.marks.mark_of.Given as goal

abbrev pub invariant-loop-k : goal.invariant-loop-k
invariant-loop-k l = meets l.reached l.accepting l.base l.k ≡ not (eqb l.common 0)
