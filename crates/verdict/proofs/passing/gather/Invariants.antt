-- The loop's invariant: the lists from v on have been gone through (Gathered).
use Rattle.std.specs.Prelude.{◌≡◌, length}
use Rattle.verdict.specs.PassingTurns.{Gathered}
use Rattle.verdict.proofs.passing.gather.Given as goal

abbrev pub invariant-loop-v : goal.invariant-loop-v
invariant-loop-v l =
    (length l.passes ≡ length l.initial.passes) × Gathered l.k l.states l.lists l.v l.accepting l.table l.t l.initial.passes l.passes l.changed
