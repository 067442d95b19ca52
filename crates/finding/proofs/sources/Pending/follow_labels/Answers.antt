use Rattle.std.specs.Prelude.{◌≡◌, ℕ, length}
use mathlib.Core.Path.{subst}
use Rattle.theory.specs.Places.{Member}
use Rattle.finding.specs.Sources.{sources, Followed, Labelled}
use Rattle.finding.specs.SourcesLaws.{followed-none, followed_then, label-next}
use native.Mathlib.Omega.{arith}
use Rattle.finding.proofs.sources.Pending.follow_labels.Goals as goal

pub loop-a-init : goal.loop-a-init
loop-a-init c =
    let x = c.args in
    followed-none (sources x.from.now x.self.now.at x.self.now.waiting) (λ u v m. omega (arith, m.1))

pub loop-a-preserved : goal.loop-a-preserved
loop-a-preserved c =
    let l = c.loop-a in
    let x = c.args in
    let list = x.list in
    followed_then l.invariant c.follow_places.ensures
    (label-next list.moves.now list.count list.follow.now list.enter.now (length list.follow.now) x.p (λ s. Member s x.taken) l.a)

pub returns : goal.returns
returns c =
    let l = c.loop-a in
    let x = c.args in
    let list = x.list in
    let e : l.a ≡ list.labels = omega arith in
    subst
    (λ (z : ℕ). Followed list.count
    (Labelled list.moves.now list.count list.follow.now list.enter.now (length list.follow.now) x.p (λ s. Member s x.taken) z)
    (sources x.from.now x.self.now.at x.self.now.waiting) (sources l.from l.self.at l.self.waiting))
    e l.invariant
