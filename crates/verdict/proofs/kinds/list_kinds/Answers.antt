use Rattle.std.specs.Prelude.{◌≡◌, ℕ}
use mathlib.Core.Path.{refl, ◌∙◌, subst}
use Rattle.verdict.specs.KindsTurns.{ListKinds, kinds-start, kinds-turn}
use native.Mathlib.Omega.{arith}
use Rattle.verdict.proofs.kinds.list_kinds.Goals as goal

pub loop-a-init : goal.loop-a-init
loop-a-init c = (refl, kinds-start _ _ _ _ _)

pub loop-a-preserved : goal.loop-a-preserved
loop-a-preserved c =
    let s = c in
    let l = c.loop-a in
    let f = c.lead_from in (
      f.auto.before ∙ l.invariant.0,
      kinds-turn s.args.x s.args.size s.args.base l.a s.args.enter.now s.args.kinds.now l.kinds
          f.new.before c.inner.result s.requires.1 c.inner.ensures f.ensures l.invariant.1,
    )

pub returns : goal.returns
returns c =
    let s = c in
    let l = c.loop-a in
    let e : l.a ≡ s.args.labels = omega (arith, c.loop-a-test.false) in
    subst
    (λ (z : ℕ). ListKinds s.args.x s.args.size s.args.base z s.args.enter.now s.args.kinds.now l.kinds) e
    l.invariant.1
