use mathlib.Core.Path.{◌∙◌}
use lib.Count.{trailing_le}
use lib.ListN.{length-set}
use Rattle.verdict.specs.SumsLaws.{four-start, four-turn, four-end, least-of-four, without-less}
use native.Mathlib.Omega.{arith}
use Rattle.verdict.proofs.sums.sum_four.Goals as goal

pub loop-set-init : goal.loop-set-init
loop-set-init c = (
  omega arith,
  omega arith,
  four-start c.args.from c.args.at c.requires.0 c.args.ended.now (omega (arith, c.requires.1)),
)

pub overflow_cast-state : goal.overflow_cast-state
overflow_cast-state c = omega (arith, trailing_le 64 c.loop-set.set)

pub overflow_add-ended : goal.overflow_add-ended
overflow_add-ended c = omega (arith, without-less c.loop-set.set c.loop-set.invariant.0, c.loop-set.invariant, c.loop-set-test.true, c.requires)

pub offset_bounds-ended-at-in-loop-set : goal.offset_bounds-ended-at-in-loop-set
offset_bounds-ended-at-in-loop-set c = omega (arith, without-less c.loop-set.set c.loop-set.invariant.0, c.loop-set.invariant, c.loop-set-test.true, c.requires)

pub bounds-ended-at-in-loop-set : goal.bounds-ended-at-in-loop-set
bounds-ended-at-in-loop-set c = omega (arith, without-less c.loop-set.set c.loop-set.invariant.0, c.loop-set.invariant, c.loop-set-test.true, c.requires, c.loop-set.invariant.2.size, length-set c.args.ended.now c.args.at 0)

pub overflow_add-ended-in-loop-set : goal.overflow_add-ended-in-loop-set
overflow_add-ended-in-loop-set c = omega (arith, least-of-four c.loop-set.set c.loop-set.invariant.0 c.loop-set-test.true, c.requires)

pub offset_bounds-ended-from : goal.offset_bounds-ended-from
offset_bounds-ended-from c = omega (arith, least-of-four c.loop-set.set c.loop-set.invariant.0 c.loop-set-test.true, c.requires)

pub bounds-ended-from : goal.bounds-ended-from
bounds-ended-from c = omega (arith, least-of-four c.loop-set.set c.loop-set.invariant.0 c.loop-set-test.true, c.requires, c.loop-set.invariant.2.size, length-set c.args.ended.now c.args.at 0)

pub bounds-ended-at-in-loop-set-2 : goal.bounds-ended-at-in-loop-set-2
bounds-ended-at-in-loop-set-2 c = omega (arith, c.loop-set-test.true, c.requires, c.loop-set.invariant.2.size, length-set c.args.ended.now c.args.at 0)

pub loop-set-preserved : goal.loop-set-preserved
loop-set-preserved c =
    let s = c in
    let l = c.loop-set in
    let h = c.loop-set-test.true in (
      omega arith,
      omega (arith, h),
      four-turn s.args.from s.args.at s.requires.0 _ l.ended l.set l.invariant.0 h
          (omega (arith, h, s.requires.1, l.invariant.2.size, length-set s.args.ended.now s.args.at 0)) l.invariant.2,
    )

pub shape_of-ended : goal.shape_of-ended
shape_of-ended c = c.loop-set.invariant.2.size ∙ length-set c.args.ended.now c.args.at 0

pub returns : goal.returns
returns c =
    let s = c in
    let l = c.loop-set in
    four-end s.args.from s.args.at s.requires.0 s.args.ended.now l.ended l.set l.invariant.1
    c.loop-set-test.false l.invariant.2
