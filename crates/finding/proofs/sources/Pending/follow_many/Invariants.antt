-- The loop's invariant: the places passed have got what the label brings.
use Rattle.std.specs.Prelude.{◌<◌, length}
use Rattle.theory.specs.Places.{Member}
use Rattle.places.specs.Followed.{Passed}
use Rattle.finding.specs.Sources.{sources, Gained}
use Rattle.finding.specs.SourcesBrought.{Given}
use Rattle.finding.proofs.MembersLeft.{MembersLeft}
use Rattle.finding.proofs.sources.Pending.follow_many.Given as goal

abbrev pub invariant-loop-next : goal.invariant-loop-next
invariant-loop-next l =
    (goal.iterator-loop-next).can_next l.next-iterator
    × (goal.iterator-loop-next).is_finite l.next-iterator
    × MembersLeft l.entered l.next-iterator.rest
    × Gained l.list.count (Given (λ t. Member t l.met) l.moved (λ y. Passed l.entered l.next-iterator.rest y × (y < length l.list.follow.now)))
    (sources l.initial.from l.initial.self.at l.initial.self.waiting) (sources l.from l.self.at l.self.waiting)
