use Rattle.std.specs.Prelude.{◌≡◌, ℕ, ◌+◌, ◌*◌, get_or}
use mathlib.Core.Bool.{false≢true}
use mathlib.Core.Path.{refl, ap, ◌∙◌, subst}
use Rattle.verdict.specs.LeadingTurns.{ListBefore, list-start, list-turn}
use Rattle.verdict.specs.WordBits.{first-none}
use native.Mathlib.Omega.{arith}
use Rattle.verdict.proofs.leading.list_leading.Goals as goal

pub loop-o-init : goal.loop-o-init
loop-o-init c = (list-start _ _ _, refl)

pub shape_of-before-then-set-eq1 : goal.shape_of-before-then-set-eq1
shape_of-before-then-set-eq1 c = c.loop-o.invariant.1

pub returns-then-set-eq1 : goal.returns-then-set-eq1
returns-then-set-eq1 c = λ e. absurd (false≢true e)

pub lead_from-requires : goal.lead_from-requires
lead_from-requires c =
    let s = c in
    (omega (arith, s.requires.3, c.loop-o.invariant.1), omega (arith, c.loop-o-test.true, s.requires.1))

pub loop-o-preserved : goal.loop-o-preserved
loop-o-preserved c =
    let l = c.loop-o in
    let s = c in
    let e : 64 * s.args.v + 64 + l.o ≡ 64 * (s.args.v + 1) + l.o = omega arith in (
      list-turn s.args.v l.o s.args.follow.now s.args.before.now l.before c.lead_from.new.before _
          (ap (λ (z : ℕ). get_or s.args.follow.now z 0) e) (first-none _ c.if-set-eq1.false) c.lead_from.ensures
          l.invariant.0,
      c.lead_from.auto.before ∙ l.invariant.1,
    )

pub shape_of-before : goal.shape_of-before
shape_of-before c = c.loop-o.invariant.1

pub returns : goal.returns
returns c =
    let l = c.loop-o in
    let s = c in
    let e : l.o ≡ s.args.size + 1 = omega (arith, c.loop-o-test.false) in
    λ t. subst (λ (z : ℕ). ListBefore s.args.v z s.args.follow.now s.args.before.now l.before) e l.invariant.0
