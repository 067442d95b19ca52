-- The loop's invariant: with what was added, the standings passed have got what `moved` has for them.
use Rattle.std.specs.Prelude.{◌≡◌, length}
use Rattle.places.specs.Followed.{Passed}
use Rattle.finding.specs.Sources.{sources, gathered, Gained}
use Rattle.finding.specs.SourcesBrought.{Given}
use Rattle.finding.proofs.MembersLeft.{MembersLeft}
use Rattle.finding.proofs.sources.Pending.give.Given as goal

abbrev pub invariant-loop-to : goal.invariant-loop-to
invariant-loop-to l =
    (goal.iterator-loop-to).can_next l.to-iterator
    × (goal.iterator-loop-to).is_finite l.to-iterator
    × MembersLeft l.met l.to-iterator.rest
    × (length l.from ≡ length l.initial.from)
    × Gained l.count (Given (Passed l.met l.to-iterator.rest) l.moved (λ y. y ≡ l.next))
    (sources l.initial.from l.self.at l.self.waiting) (gathered l.from l.self.at l.self.waiting l.next l.added)
