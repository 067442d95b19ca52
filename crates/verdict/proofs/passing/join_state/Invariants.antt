-- The loop's invariant: the words from j on have gained (Joining).
use Rattle.std.specs.Prelude.{◌≡◌, length}
use Rattle.verdict.specs.PassingTurns.{Joining}
use Rattle.verdict.proofs.passing.join_state.Given as goal

abbrev pub invariant-loop-j : goal.invariant-loop-j
invariant-loop-j l =
    (length l.passes ≡ length l.initial.passes) × Joining l.k l.t l.s l.j l.initial.passes l.passes l.changed
