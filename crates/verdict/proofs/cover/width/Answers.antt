use Rattle.verdict.specs.CoverLoops.{width-start, width-turn, width-end, width-none}
use native.Mathlib.Omega.{arith}
use Rattle.verdict.proofs.cover.width.Goals as goal

pub returns-then-lists-gt16-clause-told : goal.returns-then-lists-gt16-clause-told
returns-then-lists-gt16-clause-told c = width-none _ _ (λ k. omega (arith, k.few, c.if-lists-gt16.true))

pub returns-then-sizes-lists-clause-told : goal.returns-then-sizes-lists-clause-told
returns-then-sizes-lists-clause-told c = width-none _ _ (λ k. omega (arith, k.room, c.if-sizes-lists.true))

pub loop-v-init : goal.loop-v-init
loop-v-init c = width-start _ _

pub returns-then-size-gt63-clause-told : goal.returns-then-size-gt63-clause-told
returns-then-size-gt63-clause-told c = width-none _ _ (λ k. omega (arith, k.small c.loop-v.v c.loop-v-test.true, c.if-size-gt63.true))

pub overflow_add-w : goal.overflow_add-w
overflow_add-w c = omega (arith, c.loop-v.invariant.low)

pub loop-v-preserved : goal.loop-v-preserved
loop-v-preserved c =
    let l = c.loop-v in
    width-turn _ _ l.w l.v c.loop-v-test.true c.if-size-gt63.false l.invariant

pub returns-clause-told : goal.returns-clause-told
returns-clause-told c =
    let l = c.loop-v in
    width-end _ _ l.w l.v c.if-lists-gt16.false c.if-sizes-lists.false c.loop-v-test.false l.invariant
