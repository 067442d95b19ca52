use Rattle.std.specs.Prelude.{◌≡◌, ◌<◌, length}
use mathlib.Core.Path.{ap, ◌∙◌}
use Rattle.places.specs.declared.members.Members.{Members}
use Rattle.places.specs.Followed.{Passed, passed_none, passed-all}
use Rattle.finding.specs.MoveTable.{row_within}
use Rattle.finding.specs.Sources.{sources}
use Rattle.finding.specs.SourcesLaws.{gained-start, followed_same}
use Rattle.finding.specs.SourcesBrought.{followed-given, place_in, place_out}
use Rattle.finding.proofs.MembersLeft.{members-all, members-on, member-small, member-turn}
use native.Mathlib.Omega.{arith}
use Rattle.finding.proofs.sources.Pending.follow_many.Goals as goal

pub gather-met-requires : goal.gather-met-requires
gather-met-requires c =
    let x = c.args in
    let p = c.requires in
    (p.0, p.1, p.3, omega (arith, p.4, row_within x.list.count x.p (length x.list.follow.now) p.2))

pub loop-next-init : goal.loop-next-init
loop-next-init c =
    let x = c.args in
    let e : c.into_iter-next-iterator.result.rest ≡ x.entered =
    ap (λ (m : Members). m.rest) c.into_iter-next-iterator.ensures.into_iter_gives ∙ c.members-next-items.ensures in (
      tt,
      tt,
      members-all c.ranges.entered.fits e,
      rw e (gained-start (sources x.from.now x.self.now.at x.self.now.waiting) (λ v i m. passed_none x.entered v.1 m.0.0)),
    )

pub give-requires : goal.give-requires
give-requires c =
    let i = c.loop-next.invariant in
    let x = c.args in
    let p = c.requires in (
      p.0,
      member-small i.2 c.in-Some.ensures.steps,
      c.gather-met.ensures.small,
      omega (arith, i.3.grown.words, p.4, row_within x.list.count _ (length x.list.follow.now) c.if-next-list.true),
    )

pub loop-next-preserved-then-next-list : goal.loop-next-preserved-then-next-list
loop-next-preserved-then-next-list c =
    let i = c.loop-next.invariant in
    let g = c.gather-met in
    let step = c.in-Some.ensures.steps in (
      tt,
      tt,
      members-on i.2 step,
      place_in c.in-Some.next (member-turn i.2 step) (length c.args.list.follow.now) g.result g.new.moved i.3 c.if-next-list.true c.give.ensures,
    )

pub loop-next-preserved : goal.loop-next-preserved
loop-next-preserved c =
    let i = c.loop-next.invariant in
    let g = c.gather-met in
    let step = c.in-Some.ensures.steps in (
      tt,
      tt,
      members-on i.2 step,
      place_out c.in-Some.next (member-turn i.2 step) (length c.args.list.follow.now) g.result g.new.moved i.3 c.if-next-list.false,
    )

pub returns : goal.returns
returns c =
    let l = c.loop-next in
    let x = c.args in
    let all = passed-all x.entered l.next-iterator.rest c.in-None.ensures.steps.0 in
    followed_same
    (followed-given (λ y. Passed x.entered l.next-iterator.rest y × (y < length x.list.follow.now)) c.requires.3 c.gather-met.ensures l.invariant.3)
    (λ u v. (
      λ (e, t, (n, h), m, b). (e, t, ((all v.1).1 n, h), m, b),
      λ (e, t, (n, h), m, b). (e, t, ((all v.1).0 n, h), m, b),
    ))
