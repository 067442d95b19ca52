-- `give_ends` meets its contract. The loop's invariant: the first row of the ends has come to the rows of the states passed.
use Rattle.answering.specs.EndStepsLaws.{Coming}
use Rattle.answering.proofs.end_steps.give_ends.Given as goal

abbrev pub invariant-loop-t : goal.invariant-loop-t
invariant-loop-t l =
    (goal.iterator-loop-t).can_next l.t-iterator × (goal.iterator-loop-t).is_finite l.t-iterator
    × Coming l.joined (λ p. 0) (λ p. p) l.image l.t-iterator.rest l.initial.sets l.sets
