-- The loop's invariant: the states are sound, and where nothing has changed, or the lists with the empty path lead to no state before,
-- those from t on are closed.
use Rattle.std.specs.Prelude.{◌≡◌, false, length}
use Rattle.verdict.specs.PassingTurns.{Onward, Sound, ClosedFrom}
use Rattle.verdict.proofs.passing.pass_round.Given as goal

abbrev pub invariant-loop-t : goal.invariant-loop-t
invariant-loop-t l =
    (length l.passes ≡ length l.initial.passes) × Sound l.k l.states l.lists l.accepting l.table l.passes
    × (l.changed ≡ false → ClosedFrom l.k l.states l.lists l.accepting l.table l.passes l.t)
    × (Onward l.states l.lists l.accepting l.table → ClosedFrom l.k l.states l.lists l.accepting l.table l.passes l.t)
