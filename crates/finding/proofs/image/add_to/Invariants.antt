-- The loop's invariant: the standing is in the images of the standings passed.
use Rattle.places.specs.Followed.{Passed}
use Rattle.finding.specs.ImagesTurned.{Added}
use Rattle.finding.proofs.MembersLeft.{MembersLeft}
use Rattle.finding.proofs.image.add_to.Given as goal

abbrev pub invariant-loop-i : goal.invariant-loop-i
invariant-loop-i l =
    (goal.iterator-loop-i).can_next l.i-iterator
    × (goal.iterator-loop-i).is_finite l.i-iterator
    × MembersLeft l.all l.i-iterator.rest
    × Added (Passed l.all l.i-iterator.rest) l.to l.initial.out l.out
