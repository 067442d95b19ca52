-- The loop's invariant: the entries of the lists before v are those of the next states, and every entry is a word.
use Rattle.std.specs.Prelude.{◌≡◌, length}
use Rattle.places.specs.Words.{Words}
use Rattle.verdict.specs.FinishingTurns.{EndedBefore}
use Rattle.verdict.proofs.passing.finishing.Given as goal

abbrev pub invariant-loop-v : goal.invariant-loop-v
invariant-loop-v l =
    (length l.ended ≡ length l.initial.ended) × EndedBefore l.states l.table l.passes l.ended l.v × Words l.ended
