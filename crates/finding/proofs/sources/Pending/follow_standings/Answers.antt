use Rattle.std.specs.Prelude.{◌≡◌}
use mathlib.Core.Path.{refl, sym, ap, ◌∙◌, subst}
use Rattle.places.specs.declared.members.Members.{Members}
use Rattle.places.specs.Followed.{passed_none, passed-all}
use Rattle.finding.specs.Sources.{sources, Followed}
use Rattle.finding.specs.SourcesLaws.{followed-none, followed_same, followed_then, standing-in, standing-out}
use Rattle.finding.specs.SourcesGathered.{gathered_none}
use Rattle.finding.proofs.MembersLeft.{members-all, members-on, member-here, member-small, member-turn}
use native.Mathlib.Omega.{arith}
use Rattle.finding.proofs.sources.Pending.follow_standings.Goals as goal

pub loop-s-init : goal.loop-s-init
loop-s-init c =
    let x = c.args in
    let e : c.into_iter-s-iterator.result.rest ≡ x.taken =
    ap (λ (m : Members). m.rest) c.into_iter-s-iterator.ensures.into_iter_gives ∙ c.members-s-items.ensures in (
      tt,
      tt,
      members-all c.ranges.taken.fits e,
      refl,
      rw e (subst (Followed x.list.count _ _) (sym (gathered_none x.from.now x.self.now.at x.self.now.waiting x.next))
          (followed-none (sources x.from.now x.self.now.at x.self.now.waiting) (λ u v m. passed_none x.taken u.0 m.1))),
    )

pub overflow_mul-to : goal.overflow_mul-to
overflow_mul-to c = let h = member-small c.loop-s.invariant.2 c.in-Some.ensures.steps in omega arith

pub bounds-list-s : goal.bounds-list-s
bounds-list-s c = let h = member-small c.loop-s.invariant.2 c.in-Some.ensures.steps in omega (arith, c.requires)

pub pass_on-added-requires : goal.pass_on-added-requires
pass_on-added-requires c =
    let i = c.loop-s.invariant in
    let p = c.requires in (
      p.0,
      p.2,
      p.3 _ (member-here i.2 c.in-Some.ensures.steps),
      c.if-to-list.true,
      omega (arith, i.3, p.4),
      omega (arith, i.3, p.5),
    )

pub loop-s-preserved-then-to-list : goal.loop-s-preserved-then-to-list
loop-s-preserved-then-to-list c =
    let x = c.args in
    let i = c.loop-s.invariant in
    let step = c.in-Some.ensures.steps in (
      tt,
      tt,
      members-on i.2 step,
      c.pass_on-added.auto.from ∙ i.3,
      followed_then i.4 (c.pass_on-added.ensures x.self.now.at x.self.now.waiting (omega arith) (omega arith))
          (standing-in x.list.moves.now x.list.count x.a x.p x.next c.in-Some.s (member-turn i.2 step) _ refl c.if-to-list.true),
    )

pub loop-s-preserved : goal.loop-s-preserved
loop-s-preserved c =
    let x = c.args in
    let i = c.loop-s.invariant in
    let step = c.in-Some.ensures.steps in (
      tt,
      tt,
      members-on i.2 step,
      i.3,
      followed_same i.4
          (standing-out x.list.moves.now x.list.count x.a x.p x.next c.in-Some.s (member-turn i.2 step) c.if-to-list.false),
    )

pub returns : goal.returns
returns c =
    let l = c.loop-s in
    let x = c.args in
    let none = c.in-None.ensures.steps.0 in
    subst (Followed _ _ _) (sym (c.add.ensures l.from))
    (followed_same l.invariant.4 (λ u v. (
      λ (e, t, n, m, b). (e, (passed-all x.taken l.s-iterator.rest none u.0).1 t, n, m, b),
      λ (e, t, n, m, b). (e, (passed-all x.taken l.s-iterator.rest none u.0).0 t, n, m, b),
    )))
