-- The loop's invariant: the sums of the classes before c are put down (SumsPut).
use Rattle.std.specs.Prelude.{◌≡◌, length, get_or}
use Rattle.verdict.specs.ClassSumsTurns.{reached_by, SumsPut}
use Rattle.verdict.proofs.class_sums.class_sums.Given as goal

abbrev pub invariant-loop-c : goal.invariant-loop-c
invariant-loop-c l =
    (length l.ended ≡ length l.initial.ended)
    × SumsPut l.states (λ d. reached_by l.passes l.table (get_or l.ends d 0)) l.ends l.ended l.c l.at
