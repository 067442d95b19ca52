use Rattle.std.specs.Prelude.{◌≡◌, ◌+◌, ◌*◌, ◌%◌, ◌^◌, ◌<◌, get_or}
use mathlib.Core.Path.{refl, sym, ap, ◌∙◌, subst}
use lib.ListN.{length-set}
use Rattle.places.specs.declared.members.Members.{Members}
use Rattle.theory.specs.Places.{union}
use Rattle.places.specs.Followed.{passed_none, passed-all}
use Rattle.finding.specs.Sources.{sources, gain_of, Gained}
use Rattle.finding.specs.SourcesLaws.{gained-start, gained-same, gained-then}
use Rattle.finding.specs.SourcesGathered.{gain-up, gathered_none, gathered-as, gathered-more}
use Rattle.finding.specs.SourcesBrought.{standing-given}
use Rattle.finding.proofs.MembersLeft.{members-all, members-on, member-here, member-small, member-turn}
use native.Mathlib.Omega.{arith}
use borrow.Author.Rules.{rules}
use Rattle.finding.proofs.sources.Pending.give.Goals as goal

pub loop-to-init : goal.loop-to-init
loop-to-init c =
    let x = c.args in
    let e : c.into_iter-to-iterator.result.rest ≡ x.met =
    ap (λ (m : Members). m.rest) c.into_iter-to-iterator.ensures.into_iter_gives ∙ c.members-to-items.ensures in (
      tt,
      tt,
      members-all c.ranges.met.fits e,
      refl,
      rw e (subst (Gained x.count _ _) (sym (gathered_none x.from.now x.self.now.at x.self.now.waiting x.next))
          (gained-start (sources x.from.now x.self.now.at x.self.now.waiting) (λ v i m. passed_none x.met v.0 m.1))),
    )

pub overflow_add-at : goal.overflow_add-at
overflow_add-at c = let h = c.requires.2 _ (member-here c.loop-to.invariant.2 c.in-Some.ensures.steps) in search rules

pub bounds-from-at : goal.bounds-from-at
bounds-from-at c =
    let h = c.requires.2 _ (member-here c.loop-to.invariant.2 c.in-Some.ensures.steps) in
    omega (arith, c.requires.3, c.loop-to.invariant.3)

pub bounds-from-at-in-loop-to : goal.bounds-from-at-in-loop-to
bounds-from-at-in-loop-to c =
    let h = c.requires.2 _ (member-here c.loop-to.invariant.2 c.in-Some.ensures.steps) in
    omega (arith, c.requires.3, c.loop-to.invariant.3)

pub loop-to-preserved : goal.loop-to-preserved
loop-to-preserved c =
    let l = c.loop-to in
    let x = c.args in
    let p = c.requires in
    let i = l.invariant in
    let step = c.in-Some.ensures.steps in
    let to = c.in-Some.to in
    let below : to < x.count = p.2 _ (member-here i.2 step) in
    let k = x.count * x.next + to in
    let old = get_or l.from k 0 in
    let all = union old (get_or x.moved.now to 0) in
    let e : c.gain.result * 2 ^ to % 2 ^ 64 ≡ gain_of old all * 2 ^ to =
    ap (λ g. g * 2 ^ to % 2 ^ 64) c.gain.ensures ∙ gain-up old all to (member-small i.2 step) in (
      tt,
      tt,
      members-on i.2 step,
      length-set l.from k all ∙ i.3,
      gathered-as (Gained _ _ _) x.self.now.at x.self.now.waiting x.next refl (ap (union l.added) e)
          (gained-then i.4
          (gathered-more x.count x.next to (get_or x.moved.now to 0) l.from x.self.now.at x.self.now.waiting l.added below
          (omega arith) (omega (arith, below, i.3, p.3)) (omega (arith, p.1)) p.1 (omega arith))
          (standing-given to (member-turn i.2 step) x.moved.now x.next)),
    )

pub returns : goal.returns
returns c =
    let l = c.loop-to in
    let x = c.args in
    let none = c.in-None.ensures.steps.0 in
    subst (Gained _ _ _) (sym (c.add.ensures l.from))
    (gained-same l.invariant.4 (λ v i. (
      λ (n, t, m). (n, (passed-all x.met l.to-iterator.rest none v.0).1 t, m),
      λ (n, t, m). (n, (passed-all x.met l.to-iterator.rest none v.0).0 t, m),
    )))
