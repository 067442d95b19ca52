-- The loop's invariant: the states before t have themselves, and every other word is empty (AloneBefore).
use Rattle.std.specs.Prelude.{◌≡◌, length}
use Rattle.verdict.specs.PassingTurns.{AloneBefore}
use Rattle.verdict.proofs.passing.alone.Given as goal

abbrev pub invariant-loop-t : goal.invariant-loop-t
invariant-loop-t l = (length l.passes ≡ length l.initial.passes) × AloneBefore l.k l.states l.passes l.t
