use native.Mathlib.Omega.{arith}
use Rattle.finding.specs.FirstWords.{walking_start, walking-more, walking-stuck, walking-end}
use Rattle.finding.proofs.first.trail_length.Goals as goal

pub loop-at-init : goal.loop-at-init
loop-at-init c = walking_start c.args.parents.now c.args.state

pub bounds-parents-at : goal.bounds-parents-at
bounds-parents-at c = omega (arith, c.loop-at.invariant.within, c.requires)

pub returns-then-parent-at : goal.returns-then-parent-at
returns-then-parent-at c =
    let a = c.args in
    let l = c.loop-at in
    let parent = c.from-parent in
    walking-stuck a.parents.now a.state l.at l.steps parent.result l.invariant c.loop-at-test.true
    parent.ensures c.if-parent-at.true

pub overflow_add-steps : goal.overflow_add-steps
overflow_add-steps c = omega (arith, c.loop-at.invariant.within)

pub loop-at-preserved : goal.loop-at-preserved
loop-at-preserved c =
    let a = c.args in
    let l = c.loop-at in
    let parent = c.from-parent in
    walking-more a.parents.now a.state l.at l.steps parent.result l.invariant c.loop-at-test.true
    parent.ensures c.if-parent-at.false

pub returns : goal.returns
returns c =
    let a = c.args in
    let l = c.loop-at in
    walking-end a.parents.now a.state l.at l.steps l.invariant c.loop-at-test.false
