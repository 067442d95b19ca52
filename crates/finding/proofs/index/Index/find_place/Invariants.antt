-- The loop's invariant: `next` stands for a number of the bucket, and the numbers from there on are others (Buckets, Walk).
use Rattle.std.specs.Prelude.{◌-◌}
use Rattle.finding.specs.Buckets.{Walk}
use Rattle.finding.specs.NumberIndex.{bucket_of, number_after}
use Rattle.finding.proofs.index.Index.find_place.Given as goal

abbrev pub invariant-loop-next : goal.invariant-loop-next
invariant-loop-next l = Walk bucket_of (number_after l.found) (l.n - 1) l.x l.next

abbrev pub decreases-loop-next : goal.decreases-loop-next
decreases-loop-next l = l.next
