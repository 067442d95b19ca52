use Rattle.std.specs.Prelude.{◌≡◌, ◌*◌, ◌≤◌}
use mathlib.Core.Path.{refl, ◌∙◌, subst}
use native.Mathlib.Nat.{mul-le-mul_left}
use Rattle.verdict.specs.Sums.{quarters}
use Rattle.verdict.specs.SumsLaws.{SumsBefore, sums-start, next-list, sums-turn, sums-end}
use native.Mathlib.Omega.{arith}
use Rattle.verdict.proofs.sums.sum_lists.Goals as goal

pub loop-v-init : goal.loop-v-init
loop-v-init c = (refl, sums-start _ _ _)

pub overflow_mul-count-in-loop-v-2 : goal.overflow_mul-count-in-loop-v-2
overflow_mul-count-in-loop-v-2 c =
    let s = c in
    let few : c.loop-v.v ≤ 16 = omega (arith, s.requires.0, c.loop-v-test.true) in
    omega (arith, s.requires.0, s.requires.1, mul-le-mul_left (16 * quarters s.args.n) few)

pub overflow_add-lists : goal.overflow_add-lists
overflow_add-lists c =
    let s = c in
    let few : c.loop-v.v ≤ 16 = omega (arith, s.requires.0, c.loop-v-test.true) in
    omega (arith, s.requires.0, s.requires.1, mul-le-mul_left (16 * quarters s.args.n) few)

pub sum_list-requires : goal.sum_list-requires
sum_list-requires c =
    let s = c in
    let l = c.loop-v in (
      omega (arith, s.requires.1),
      omega (arith, c.loop-v-test.true),
      omega (arith, s.requires.2, l.invariant.0, next-list (16 * quarters s.args.n) l.v s.args.lists c.loop-v-test.true),
    )

pub loop-v-preserved : goal.loop-v-preserved
loop-v-preserved c =
    let s = c in
    let l = c.loop-v in
    let call = c.sum_list in
    let h = c.loop-v-test.true in (
      call.auto.ended ∙ l.invariant.0,
      sums-turn s.args.lists s.args.n l.v _ l.ended _ h s.requires.1 l.invariant.1 call.ensures,
    )

pub shape_of-ended : goal.shape_of-ended
shape_of-ended c = c.loop-v.invariant.0

pub returns : goal.returns
returns c =
    let s = c in
    let l = c.loop-v in
    let e : l.v ≡ s.args.lists = omega (arith, c.loop-v-test.false) in (
      sums-end s.args.lists s.args.n s.args.ended.now l.ended s.requires.1 (omega (arith, s.requires.2, l.invariant.0))
          (subst (SumsBefore s.args.lists s.args.n s.args.ended.now l.ended) e l.invariant.1),
      l.invariant.1.below,
    )
