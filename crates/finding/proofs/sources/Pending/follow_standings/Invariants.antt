-- The loop's invariant: with what was added, the label is followed from the standings passed.
use Rattle.std.specs.Prelude.{◌≡◌, length}
use Rattle.places.specs.Followed.{Passed}
use Rattle.finding.specs.Sources.{sources, gathered, Followed, Moved}
use Rattle.finding.proofs.MembersLeft.{MembersLeft}
use Rattle.finding.proofs.sources.Pending.follow_standings.Given as goal

abbrev pub invariant-loop-s : goal.invariant-loop-s
invariant-loop-s l =
    (goal.iterator-loop-s).can_next l.s-iterator
    × (goal.iterator-loop-s).is_finite l.s-iterator
    × MembersLeft l.taken l.s-iterator.rest
    × (length l.from ≡ length l.initial.from)
    × Followed l.list.count (Moved l.list.moves.now l.list.count l.a l.p (Passed l.taken l.s-iterator.rest) (λ y. y ≡ l.next))
    (sources l.initial.from l.self.at l.self.waiting) (gathered l.from l.self.at l.self.waiting l.next l.added)
