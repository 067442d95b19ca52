-- The loop's invariant: the set has gained what is reached from the states before k. The measure is the number of states left.
use Rattle.std.specs.Prelude.{◌≡◌, ◌-◌, length}
use Rattle.places.specs.Words.{number_of}
use Rattle.verdict.specs.Ranges.{Adds}
use Rattle.verdict.specs.RangesTurns.{EndsTo}
use Rattle.verdict.proofs.ranges.end_range.Given as goal

abbrev pub invariant-loop-k : goal.invariant-loop-k
invariant-loop-k l =
    (length l.words ≡ 16) × Adds (EndsTo l.n l.k l.reached l.table l.v (number_of l.initial.words) l.at) l.initial.words l.words

abbrev pub decreases-loop-k : goal.decreases-loop-k
decreases-loop-k l = l.n - l.k
