-- The loop's invariant: the set has gained the first j words of what the state leads to.
use Rattle.std.specs.Prelude.{◌≡◌, length}
use Rattle.verdict.specs.Ranges.{Adds}
use Rattle.verdict.specs.RangesTurns.{LeadsBelow}
use Rattle.verdict.proofs.ranges.add_state.Given as goal

abbrev pub invariant-loop-j : goal.invariant-loop-j
invariant-loop-j l = (length l.words ≡ 16) × Adds (LeadsBelow l.reached l.t l.j) l.initial.words l.words
