use Rattle.std.specs.Prelude.{◌≡◌}
use mathlib.Core.Path.{refl, ◌∙◌, subst}
use Rattle.verdict.specs.Sums.{ListSummed}
use Rattle.verdict.specs.SumsLaws.{list-start, list-turn}
use native.Mathlib.Omega.{arith}
use Rattle.verdict.proofs.sums.sum_list.Goals as goal

pub loop-k-init : goal.loop-k-init
loop-k-init c = (refl, list-start _ _ _)

pub loop-k-preserved : goal.loop-k-preserved
loop-k-preserved c =
    let s = c in
    let l = c.loop-k in
    let call = c.sum_four in (
      call.auto.ended ∙ l.invariant.0,
      list-turn s.args.from s.args.at l.k _ l.ended _ s.requires.1
          (omega (arith, s.requires.0, c.loop-k-test.true)) l.invariant.1 call.ensures,
    )

pub shape_of-ended : goal.shape_of-ended
shape_of-ended c = c.loop-k.invariant.0

pub returns : goal.returns
returns c =
    let s = c in
    let l = c.loop-k in
    let e : l.k ≡ s.args.count = omega (arith, c.loop-k-test.false) in
    subst (λ k. ListSummed s.args.from s.args.at k s.args.ended.now l.ended) e l.invariant.1
