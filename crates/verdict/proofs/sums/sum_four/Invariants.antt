-- The loop's invariant: the sums of the sets below `set` are put down (FourLeft).
use Rattle.std.specs.Prelude.{◌<◌, ◌≤◌}
use Rattle.verdict.specs.SumsLaws.{FourLeft}
use Rattle.verdict.proofs.sums.sum_four.Given as goal

abbrev pub invariant-loop-set : goal.invariant-loop-set
invariant-loop-set l = (0 < l.set) × (l.set ≤ 16) × FourLeft l.from l.at l.initial.ended l.ended l.set
