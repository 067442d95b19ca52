-- The loop's invariant: the set has gained the places before k. The measure is the number of places left.
use Rattle.std.specs.Prelude.{◌≡◌, ◌-◌, length}
use Rattle.places.specs.Words.{number_of}
use Rattle.verdict.specs.Ranges.{Adds}
use Rattle.verdict.specs.RangesTurns.{RangeTo}
use Rattle.verdict.proofs.ranges.put_range.Given as goal

abbrev pub invariant-loop-k : goal.invariant-loop-k
invariant-loop-k l = (length l.words ≡ 16) × Adds (RangeTo l.n l.k (number_of l.set) l.from l.to) l.initial.words l.words

abbrev pub decreases-loop-k : goal.decreases-loop-k
decreases-loop-k l = l.n - l.k
