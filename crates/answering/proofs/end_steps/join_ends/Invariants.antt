-- `join_ends` meets its contract. The loop's invariant: the rows of the members passed have come to the first row.
use Rattle.std.specs.Prelude.{◌+◌}
use Rattle.answering.specs.EndStepsLaws.{Coming}
use Rattle.answering.proofs.end_steps.join_ends.Given as goal

abbrev pub invariant-loop-p : goal.invariant-loop-p
invariant-loop-p l =
    (goal.iterator-loop-p).can_next l.p-iterator × (goal.iterator-loop-p).is_finite l.p-iterator
    × Coming l.ends (λ p. l.row + p) (λ p. 0) l.set l.p-iterator.rest l.initial.joined l.joined
