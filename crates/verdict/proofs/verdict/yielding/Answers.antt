use Rattle.std.specs.Prelude.{◌≡◌, ◌+◌, ◌≤◌}
use mathlib.Core.Path.{refl, sym, subst}
use native.Mathlib.Nat.{mul-le-mul_right, mul_comm}
use Rattle.places.specs.Words.{number_of}
use Rattle.verdict.specs.Cover.{yielding as yielding_of}
use Rattle.verdict.specs.Missing.{Yields, yields-in, yields-out}
use native.Mathlib.Omega.{arith}
use Rattle.verdict.proofs.verdict.yielding.Goals as goal
use Rattle.verdict.proofs.verdict.yielding.Goals.{else-flags-q-eq1, then-flags-q-eq1}

pub loop-q-init : goal.loop-q-init
unfolding number_of yielding_of
loop-q-init c = record { told = λ any table. refl }

pub bounds-flags-q : goal.bounds-flags-q
bounds-flags-q c = omega (arith, c.loop-q-test.true, c.requires.2)

pub overflow_mul-w : goal.overflow_mul-w
overflow_mul-w c =
    let s = c in
    let l = c.loop-q in
    let within : l.q ≤ s.args.states = omega arith in
    omega (arith, mul-le-mul_right s.args.w within, mul_comm l.q s.args.w, s.requires.1)

pub loop-q-preserved : goal.loop-q-preserved
loop-q-preserved c =
    let s = c in
    let l = c.loop-q in
    (elim c.if-flags-q-eq1.branch [
      | then-flags-q-eq1 x ↦ subst (λ z. Yields s.args.flags.now s.args.w (l.q + 1) z.words) (sym x.set-is)
          (yields-in s.args.flags.now s.args.states s.args.w l.q l.set.words x.with_shifted-set.result.words s.requires.0 s.requires.1
          c.loop-q-test.true x.if-flags-q-eq1.true l.invariant x.with_shifted-set.ensures)
      | else-flags-q-eq1 x ↦ subst (λ z. Yields s.args.flags.now s.args.w (l.q + 1) z.words) (sym x.set-is)
          (yields-out s.args.flags.now s.args.w l.q l.set.words x.if-flags-q-eq1.false l.invariant)
    ])

pub returns : goal.returns
returns c =
    let s = c in
    let l = c.loop-q in
    let e : l.q ≡ s.args.states = omega (arith, c.loop-q-test.false) in
    subst (λ z. Yields s.args.flags.now s.args.w z l.set.words) e l.invariant
