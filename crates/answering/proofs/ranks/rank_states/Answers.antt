use Rattle.std.specs.Prelude.{◌≡◌, ◌<◌, length}
use Rattle.answering.specs.Ranks.{ranks-start, ranks-out, ranks-next}
use native.Mathlib.Omega.{arith}
use Rattle.answering.proofs.ranks.rank_states.Goals as goal
use Rattle.answering.proofs.ranks.rank_states.Goals.{else-leads_nowhere, then-leads_nowhere}

pub loop-s-init : goal.loop-s-init
loop-s-init c = ranks-start c.args.flags.now c.requires

pub loop-s-preserved : goal.loop-s-preserved
loop-s-preserved c =
    let v = c.loop-s.invariant in
    let p = c.requires in
    let few : c.loop-s.s < 256 = omega (arith, p.few) in
    let ranks-fit : c.loop-s.s < length c.loop-s.ranks = omega (arith, p.ranks-fit) in
    let kept-fit : c.loop-s.count < length c.loop-s.kept = omega (arith, p.kept-fit, v.few) in
    elim c.if-leads_nowhere.branch [
      | then-leads_nowhere w ↦ rw (w.ranks-is, w.kept-is, w.count-is)
          (ranks-out v few ranks-fit (c.leads_nowhere.ensures.0 w.if-leads_nowhere.true))
      | else-leads_nowhere w ↦ rw (w.ranks-is, w.kept-is, w.count-is) (ranks-next v few ranks-fit kept-fit)
    ]

pub returns : goal.returns
returns c =
    let some = c.requires.some in
    let e : c.loop-s.s ≡ c.args.states = omega arith in
    rw e at c.loop-s.invariant
