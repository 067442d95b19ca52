-- The loop's invariant: the words of the states before q are put down (WordsBefore).
use Rattle.std.specs.Prelude.{◌≡◌, length}
use Rattle.verdict.specs.ClassSumsTurns.{reached_by, WordsBefore}
use Rattle.verdict.proofs.class_sums.class_words.Given as goal

abbrev pub invariant-loop-q : goal.invariant-loop-q
invariant-loop-q l =
    (length l.ended ≡ length l.initial.ended) × WordsBefore (reached_by l.passes l.table l.set) l.initial.ended l.ended l.q
