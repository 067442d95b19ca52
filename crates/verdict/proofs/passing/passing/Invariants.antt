-- The loop's invariant: the states are sound.
use Rattle.std.specs.Prelude.{◌≡◌, length}
use Rattle.verdict.specs.PassingTurns.{Sound}
use Rattle.verdict.proofs.passing.passing.Given as goal

abbrev pub invariant-loop-round : goal.invariant-loop-round
invariant-loop-round l =
    (length l.passes ≡ length l.initial.passes) × Sound l.k l.states l.lists l.accepting l.table l.passes
