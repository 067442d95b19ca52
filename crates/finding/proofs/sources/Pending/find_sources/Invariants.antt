-- The loop's invariant: what is found is reached, and all labels of what is found and not pending are followed (Sources, Searching). A turn
-- takes a waiting place, and a place comes to wait only where a source is added.
use Rattle.std.specs.Prelude.{◌≡◌, length}
use Rattle.finding.specs.ListTables.{tables_of}
use Rattle.finding.specs.Sources.{sources, left, Searching}
use Rattle.finding.proofs.sources.Pending.find_sources.Given as goal

abbrev pub invariant-loop-self : goal.invariant-loop-self
invariant-loop-self l =
    (length l.self.at ≡ 64) × (length l.from ≡ length l.initial.from)
    × Searching (tables_of l.list) (length l.list.follow.now) (sources l.from l.self.at l.self.waiting)

abbrev pub decreases-loop-self : goal.decreases-loop-self
decreases-loop-self l = left l.from l.self.waiting
