-- The loop's invariant: `moved` and `met` have what the label brings from the standings passed.
use Rattle.std.specs.Prelude.{◌≡◌, length}
use Rattle.places.specs.Followed.{Passed}
use Rattle.finding.specs.SourcesBrought.{Brought}
use Rattle.finding.proofs.MembersLeft.{MembersLeft}
use Rattle.finding.proofs.sources.gather.Given as goal

abbrev pub invariant-loop-s : goal.invariant-loop-s
invariant-loop-s l =
    (goal.iterator-loop-s).can_next l.s-iterator
    × (goal.iterator-loop-s).is_finite l.s-iterator
    × MembersLeft l.taken l.s-iterator.rest
    × (length l.moved ≡ 64)
    × Brought l.list.moves.now l.list.count l.a l.p (Passed l.taken l.s-iterator.rest) l.from l.moved l.met
