use Rattle.std.specs.Prelude.{◌≡◌, ◌*◌, ◌%◌, ◌^◌, get_or, set}
use mathlib.Core.Path.{ap, sym, ◌∙◌, subst}
use lib.Dec.{lit<}
use lib.Pow.{shl_exact}
use Rattle.theory.specs.Places.{one, union}
use Rattle.places.specs.declared.members.Members.{Members}
use Rattle.places.specs.Followed.{Passed, passed_none, passed-all}
use Rattle.finding.specs.ImagesTurned.{Added, added_none, added-same, added_more}
use Rattle.finding.proofs.MembersLeft.{members-all, members-on, member-here, member-turn}
use native.Mathlib.Omega.{arith}
use Rattle.finding.proofs.image.add_to.Goals as goal

pub loop-i-init : goal.loop-i-init
loop-i-init c =
    let x = c.args in
    let e : c.into_iter-i-iterator.result.rest ≡ x.all =
    ap (λ (m : Members). m.rest) c.into_iter-i-iterator.ensures.into_iter_gives ∙ c.members-i-items.ensures in
    (tt, tt, members-all c.ranges.all.fits e, rw e (added_none x.to x.out.now (passed_none x.all)))

pub bounds-out-i : goal.bounds-out-i
bounds-out-i c =
    let i = c.loop-i.invariant in
    let h = c.requires.1 _ (member-here i.2 c.in-Some.ensures.steps) in
    omega (arith, i.3.size)

pub bounds-out-i-in-loop-i : goal.bounds-out-i-in-loop-i
bounds-out-i-in-loop-i c =
    let i = c.loop-i.invariant in
    let h = c.requires.1 _ (member-here i.2 c.in-Some.ensures.steps) in
    omega (arith, i.3.size)

pub loop-i-preserved : goal.loop-i-preserved
loop-i-preserved c =
    let x = c.args in
    let l = c.loop-i in
    let inv = l.invariant in
    let step = c.in-Some.ensures.steps in
    let i = c.in-Some.i in
    let h = c.requires.1 _ (member-here inv.2 step) in
    let bit : 1 * 2 ^ x.to % 2 ^ 64 ≡ one x.to = shl_exact {a = 1} 1 x.to 64 (lit< tt) (omega arith) ∙ omega arith in (
      tt,
      tt,
      members-on inv.2 step,
      subst (λ z. Added (Passed x.all c.next.new.self.rest) x.to x.out.now (set l.out i (union (get_or l.out i 0) z))) (sym bit)
          (added_more i x.to x.out.now l.out (member-turn inv.2 step) (omega (arith, inv.3.size)) inv.3),
    )

pub shape_of-out : goal.shape_of-out
shape_of-out c = c.loop-i.invariant.3.size

pub returns : goal.returns
returns c =
    let x = c.args in
    let l = c.loop-i in
    added-same (λ i. let p = passed-all x.all l.i-iterator.rest c.in-None.ensures.steps.0 i in (p.1, p.0)) l.invariant.3
