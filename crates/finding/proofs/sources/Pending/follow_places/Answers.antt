-- `follow_places` meets its contract: there are no places, there are many, or there is the least alone, which is of the list or not.
use Rattle.std.specs.Prelude.{◌<◌, length}
use mathlib.Core.Path.{sym, subst}
use lib.Count.{trailing_le}
use Rattle.theory.specs.Places.{Member}
use Rattle.theory.specs.PlacesLaws.{member-none}
use Rattle.places.specs.Followed.{least-small}
use Rattle.finding.specs.MoveTable.{row_within}
use Rattle.finding.specs.Sources.{sources}
use Rattle.finding.specs.SourcesLaws.{followed-none, followed_same}
use Rattle.finding.specs.SourcesBrought.{one_place}
use native.Mathlib.Omega.{arith}
use Rattle.finding.proofs.sources.Pending.follow_places.Goals as goal

pub returns-then-entered-eq0 : goal.returns-then-entered-eq0
returns-then-entered-eq0 c =
    let x = c.args in
    followed-none (sources x.from.now x.self.now.at x.self.now.waiting)
    (λ u v m. member-none v.1 (subst (Member v.1) c.if-entered-eq0.true m.2.0))

pub overflow_cast-next : goal.overflow_cast-next
overflow_cast-next c = omega (arith, trailing_le 64 c.args.entered)

pub follow_standings-requires : goal.follow_standings-requires
follow_standings-requires c =
    let x = c.args in
    let p = c.requires in (
      p.0,
      p.1,
      least-small x.entered c.if-entered-eq0.false c.ranges.entered.fits,
      p.3,
      omega (arith, p.4, row_within x.list.count x.p (length x.list.follow.now) p.2),
      omega (arith, p.4, row_within x.list.count _ (length x.list.follow.now) c.if-next-list.true),
    )

pub returns-then-next-list : goal.returns-then-next-list
returns-then-next-list c =
    let x = c.args in
    let alone = one_place x.entered c.if-entered-eq0.false c.ranges.entered.fits
    c.if-entered-ne0.false in
    let low = c.if-next-list.true in
    followed_same c.follow_standings.ensures (λ u v. (
      λ (e, t, (n, h), m, b). (e, t, (alone v.1).0 n, m, b),
      λ (e, t, n, m, b). (e, t, ((alone v.1).1 n, subst (◌< length x.list.follow.now) (sym n) low), m, b),
    ))

pub returns-else-next-list : goal.returns-else-next-list
returns-else-next-list c =
    let x = c.args in
    let alone = one_place x.entered c.if-entered-eq0.false c.ranges.entered.fits c.if-entered-ne0.false in
    followed-none (sources x.from.now x.self.now.at x.self.now.waiting)
    (λ u v m. omega (arith, c.if-next-list.false, (alone v.1).0 m.2.0, m.2.1))
