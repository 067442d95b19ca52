use Rattle.std.specs.Prelude.{◌≡◌, ◌<◌}
use native.Mathlib.Omega.{arith}
use Rattle.theory.specs.Leaders.{leaders-at-most}
use Rattle.theory.specs.Refinement.{class_at}
use Rattle.finding.specs.MergeLaws.{numbers-none, numbers-first, numbers-later}
use Rattle.finding.proofs.merge.number_classes.Goals as goal
use Rattle.finding.proofs.merge.number_classes.Goals.{else-first-s, then-first-s}

pub loop-s-init : goal.loop-s-init
loop-s-init c = numbers-none _ _ c.requires.2

pub overflow_cast-first : goal.overflow_cast-first
overflow_cast-first c = omega (arith, c.requires.1.at_most c.loop-s.s c.loop-s-test.true, c.requires.0)

pub overflow_cast-numbers : goal.overflow_cast-numbers
overflow_cast-numbers c = omega (arith, leaders-at-most (class_at c.args.classes.now) c.loop-s.s)

pub overflow_add-count : goal.overflow_add-count
overflow_add-count c = omega (arith, leaders-at-most (class_at c.args.classes.now) c.loop-s.s)

pub bounds-numbers-first : goal.bounds-numbers-first
bounds-numbers-first c = omega (arith, c.requires.1.at_most c.loop-s.s c.loop-s-test.true, c.requires.0)

pub loop-s-preserved : goal.loop-s-preserved
loop-s-preserved c =
    let l = c.loop-s in
    let h = c.loop-s-test.true in
    let room : l.s < 256 = omega (arith, c.requires.0) in
    elim c.if-first-s.branch [
      | then-first-s w ↦ rw (w.numbers-is, w.count-is) (numbers-first l.invariant room w.if-first-s.true)
      | else-first-s w ↦ rw (w.numbers-is, w.count-is) (numbers-later l.invariant room c.requires.1 h w.if-first-s.false)
    ]

pub returns : goal.returns
returns c =
    let l = c.loop-s in
    let e : l.s ≡ c.args.states = omega arith in
    rw e at l.invariant
