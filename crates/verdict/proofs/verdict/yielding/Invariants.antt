-- The loop's invariant: the set holds the accepting states below q.
use Rattle.verdict.specs.Missing.{Yields}
use Rattle.verdict.proofs.verdict.yielding.Given as goal

abbrev pub invariant-loop-q : goal.invariant-loop-q
invariant-loop-q l = Yields l.flags l.w l.q l.set.words
