-- The loop's invariant: the labels passed are followed.
use Rattle.std.specs.Prelude.{length}
use Rattle.theory.specs.Places.{Member}
use Rattle.finding.specs.Sources.{sources, Followed, Labelled}
use Rattle.finding.proofs.sources.Pending.follow_labels.Given as goal

abbrev pub invariant-loop-a : goal.invariant-loop-a
invariant-loop-a l =
    let list = l.list in
    Followed list.count (Labelled list.moves.now list.count list.follow.now list.enter.now (length list.follow.now) l.p (λ s. Member s l.taken) l.a)
    (sources l.initial.from l.initial.self.at l.initial.self.waiting) (sources l.from l.self.at l.self.waiting)
