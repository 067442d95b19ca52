use Rattle.std.specs.Prelude.{◌≡◌, ℕ, ◌≤◌, List, get_or}
use mathlib.Core.Path.{ap, ◌∙◌}
use native.Mathlib.Omega.{arith}
use Rattle.theory.specs.Leaders.{leaders, leaders-at-most}
use Rattle.theory.specs.Refinement.{class_at}
use Rattle.theory.specs.Minimized.{class_number}
use Rattle.finding.specs.MergeLaws.{classes-none, classes-later, classes-first, row-waits}
use Rattle.finding.proofs.merge.put_classes.Goals as goal
use Rattle.finding.proofs.merge.put_classes.Goals.{else-classes-s, then-classes-s}

-- The number of a class that begins with s.
module _ (classes numbers : List ℕ) (s : ℕ) (numbered : get_or numbers s 0 ≡ class_number (class_at classes) s) (e : class_at classes s ≡ s) where
  number : get_or numbers s 0 ≡ leaders (class_at classes) s
  unfolding class_number
  number = numbered ∙ ap (leaders (class_at classes)) e

  number-at-most : get_or numbers s 0 ≤ s
  number-at-most = omega (arith, number, leaders-at-most (class_at classes) s)

pub loop-s-init : goal.loop-s-init
loop-s-init c = classes-none _ _ _ _

pub overflow_cast-classes : goal.overflow_cast-classes
overflow_cast-classes c =
    let p = c.requires in
    omega (arith, p.1.at_most c.loop-s.s c.loop-s-test.true, p.0.rows.most)

pub overflow_cast-k : goal.overflow_cast-k
overflow_cast-k c =
    let s = c.loop-s.s in
    let p = c.requires in
    omega (arith, number-at-most _ _ s (p.2 s c.loop-s-test.true) c.if-classes-s.true, p.0.rows.most)

pub put_row-requires : goal.put_row-requires
put_row-requires c =
    let s = c.loop-s.s in
    let h = c.loop-s-test.true in
    let p = c.requires in
    (row-waits p.0 p.1 c.loop-s.invariant h, number-at-most _ _ s (p.2 s h) c.if-classes-s.true)

pub bounds-flags-s : goal.bounds-flags-s
bounds-flags-s c = omega (arith, c.loop-s.invariant.flags-sized, c.requires.0.flags-room, c.requires.0.rows.most)

pub bounds-flags-k : goal.bounds-flags-k
bounds-flags-k c =
    let s = c.loop-s.s in
    let p = c.requires in
    omega (
      arith,
      c.loop-s.invariant.flags-sized,
      p.0.flags-room,
      p.0.rows.most,
      number-at-most _ _ s (p.2 s c.loop-s-test.true) c.if-classes-s.true,
    )

pub loop-s-preserved : goal.loop-s-preserved
loop-s-preserved c =
    let p = c.requires in
    let l = c.loop-s in
    let h = c.loop-s-test.true in
    elim c.if-classes-s.branch [
      | then-classes-s w ↦
          let e = w.if-classes-s.true in
          rw (w.table-is, w.flags-is) (classes-first p.0 p.1 l.invariant h p.2 e (number _ _ l.s (p.2 l.s h) e) w.put_row.ensures)
      | else-classes-s w ↦ rw (w.table-is, w.flags-is) (classes-later p.0 p.1 l.invariant h w.if-classes-s.false)
    ]

pub returns : goal.returns
returns c =
    let l = c.loop-s in
    let e : l.s ≡ c.args.states = omega arith in
    rw e at l.invariant
