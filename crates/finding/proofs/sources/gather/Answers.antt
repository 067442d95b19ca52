use Rattle.std.specs.Prelude.{◌≡◌, ◌*◌, ◌%◌, ◌^◌, ◌<◌, ◌+◌, get_or}
use mathlib.Core.Path.{ap, ◌∙◌, refl}
use lib.Dec.{lit<}
use lib.ListN.{length-set}
use lib.Pow.{shl_exact}
use Rattle.theory.specs.Places.{one, union}
use Rattle.places.specs.declared.members.Members.{Members}
use Rattle.places.specs.Followed.{passed_none, passed-all}
use Rattle.finding.specs.SourcesBrought.{brought-none, brought-same, brought-as, brought-out, brought-more}
use Rattle.finding.proofs.MembersLeft.{members-all, members-on, member-here, member-small, member-turn}
use native.Mathlib.Omega.{arith}
use Rattle.finding.proofs.sources.gather.Goals as goal

pub loop-s-init : goal.loop-s-init
loop-s-init c =
    let x = c.args in
    let e : c.into_iter-s-iterator.result.rest ≡ x.taken =
    ap (λ (m : Members). m.rest) c.into_iter-s-iterator.ensures.into_iter_gives ∙ c.members-s-items.ensures in (
      tt,
      tt,
      members-all c.ranges.taken.fits e,
      omega arith,
      rw e (brought-none x.list.moves.now x.list.count x.a x.p x.from.now _ c.clear_moved.ensures (passed_none x.taken)),
    )

pub overflow_mul-to : goal.overflow_mul-to
overflow_mul-to c = let h = member-small c.loop-s.invariant.2 c.in-Some.ensures.steps in omega arith

pub bounds-list-s : goal.bounds-list-s
bounds-list-s c = let h = member-small c.loop-s.invariant.2 c.in-Some.ensures.steps in omega (arith, c.requires)

pub bounds-from-list : goal.bounds-from-list
bounds-from-list c =
    let h = c.requires.2 _ (member-here c.loop-s.invariant.2 c.in-Some.ensures.steps) in
    omega (arith, c.requires.3)

pub loop-s-preserved-then-to-list : goal.loop-s-preserved-then-to-list
loop-s-preserved-then-to-list c =
    let x = c.args in
    let l = c.loop-s in
    let i = l.invariant in
    let step = c.in-Some.ensures.steps in
    let s = c.in-Some.s in
    let to = get_or x.list.moves.now (32 * s + x.a) 0 in
    let room : to < 64 = omega (arith, c.if-to-list.true, c.requires.0) in
    let bit : 1 * 2 ^ to % 2 ^ 64 ≡ one to = shl_exact {a = 1} 1 to 64 (lit< tt) (omega arith) ∙ omega arith in (
      tt,
      tt,
      members-on i.2 step,
      length-set l.moved to _ ∙ i.3,
      brought-as refl (ap (union l.met) bit)
          (brought-more x.list.moves.now x.list.count x.a x.p x.from.now s (member-turn i.2 step) l.moved l.met i.4 to refl
          c.if-to-list.true (omega (arith, i.3))),
    )

pub loop-s-preserved : goal.loop-s-preserved
loop-s-preserved c =
    let x = c.args in
    let l = c.loop-s in
    let i = l.invariant in
    let step = c.in-Some.ensures.steps in (
      tt,
      tt,
      members-on i.2 step,
      i.3,
      brought-out x.list.moves.now x.list.count x.a x.p x.from.now c.in-Some.s (member-turn i.2 step) l.moved l.met i.4 c.if-to-list.false,
    )

pub returns : goal.returns
returns c =
    let l = c.loop-s in
    let x = c.args in
    let all = passed-all x.taken l.s-iterator.rest c.in-None.ensures.steps.0 in
    brought-same x.list.moves.now x.list.count x.a x.p x.from.now l.moved l.met (λ s k h. (all s).1 k) (λ s k. (all s).0 k) l.invariant.4
