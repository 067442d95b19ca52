use Rattle.verdict.specs.SumsLaws.{left-start, left-room, left-turn, left_end}
use native.Mathlib.Omega.{arith}
use Rattle.verdict.proofs.sums.ended_of.Goals as goal

pub loop-rest-init : goal.loop-rest-init
loop-rest-init c = left-start _ _ c.args.ends (omega arith)

pub overflow_add-all : goal.overflow_add-all
overflow_add-all c = omega (arith, left-room _ _ _ _ _ _ c.loop-rest.invariant c.loop-rest-test.true c.requires)

pub offset_bounds-ended-at : goal.offset_bounds-ended-at
offset_bounds-ended-at c = omega (arith, left-room _ _ _ _ _ _ c.loop-rest.invariant c.loop-rest-test.true c.requires)

pub bounds-ended-at : goal.bounds-ended-at
bounds-ended-at c = omega (arith, left-room _ _ _ _ _ _ c.loop-rest.invariant c.loop-rest-test.true c.requires)

pub overflow_add-all-in-loop-rest : goal.overflow_add-all-in-loop-rest
overflow_add-all-in-loop-rest c = omega (arith, left-room _ _ _ _ _ _ c.loop-rest.invariant c.loop-rest-test.true c.requires)

pub overflow_add-all-in-loop-rest-2 : goal.overflow_add-all-in-loop-rest-2
overflow_add-all-in-loop-rest-2 c = omega (arith, left-room _ _ _ _ _ _ c.loop-rest.invariant c.loop-rest-test.true c.requires)

pub offset_bounds-ended-at-in-loop-rest : goal.offset_bounds-ended-at-in-loop-rest
offset_bounds-ended-at-in-loop-rest c = omega (arith, left-room _ _ _ _ _ _ c.loop-rest.invariant c.loop-rest-test.true c.requires)

pub bounds-ended-at-in-loop-rest : goal.bounds-ended-at-in-loop-rest
bounds-ended-at-in-loop-rest c = omega (arith, left-room _ _ _ _ _ _ c.loop-rest.invariant c.loop-rest-test.true c.requires)

pub overflow_add-at : goal.overflow_add-at
overflow_add-at c = omega (arith, left-room _ _ _ _ _ _ c.loop-rest.invariant c.loop-rest-test.true c.requires)

pub loop-rest-smaller : goal.loop-rest-smaller
loop-rest-smaller c = omega (arith, c.loop-rest-test.true)

pub loop-rest-preserved : goal.loop-rest-preserved
loop-rest-preserved c = left-turn _ _ _ _ _ _ c.loop-rest.invariant c.loop-rest-test.true

pub returns : goal.returns
returns c = left_end _ _ _ _ _ _ c.loop-rest.invariant c.loop-rest-test.false
