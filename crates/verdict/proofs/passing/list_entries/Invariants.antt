-- The loop's invariant: the entries of the states before q are those of the next states.
use Rattle.verdict.specs.FinishingTurns.{EntriesBefore}
use Rattle.verdict.proofs.passing.list_entries.Given as goal

abbrev pub invariant-loop-q : goal.invariant-loop-q
invariant-loop-q l = EntriesBefore l.states l.v l.table l.passes l.initial.ended l.ended l.q
