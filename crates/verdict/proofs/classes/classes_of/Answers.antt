use Rattle.std.specs.Prelude.{◌-◌}
use lib.Bits.{and_le_r}
use Rattle.places.specs.NextPlace.{trailing-here}
use Rattle.verdict.specs.ClassesTurns.{classes-start, classes-turn, classes-end}
use native.Mathlib.Omega.{arith}
use Rattle.std.proofs.Common.{rules}
use Rattle.verdict.proofs.classes.classes_of.Goals as goal

pub loop-p-init : goal.loop-p-init
loop-p-init c = rw (c.into_iter-p-iterator.ensures.into_iter_gives, c.members-p-items.ensures) (search rules, search rules, omega arith, classes-start _ _ _)

pub overflow_add-base : goal.overflow_add-base
overflow_add-base c =
    let (some, is, left) = c.in-Some.ensures.steps in
    let here = rw (← is) at (trailing-here 64 c.loop-p.p-iterator.rest some c.loop-p.invariant.2) in
    let s = c in
    let l = c.loop-p in
    omega (
      arith,
      s.requires c.in-Some.p (l.invariant.3.inside _ here).1,
      s.well_formed.0,
    )

pub class_at-requires : goal.class_at-requires
class_at-requires c =
    let (some, is, left) = c.in-Some.ensures.steps in
    let here = rw (← is) at (trailing-here 64 c.loop-p.p-iterator.rest some c.loop-p.invariant.2) in
    let l = c.loop-p in
    c.requires c.in-Some.p (l.invariant.3.inside _ here).1

pub loop-p-preserved : goal.loop-p-preserved
loop-p-preserved c =
    let (some, is, left) = c.in-Some.ensures.steps in
    let s = c in
    let l = c.loop-p in
    rw left (
      search rules,
      search rules,
      omega (arith, l.invariant.2, and_le_r l.p-iterator.rest (l.p-iterator.rest - 1)),
      classes-turn s.args.classes.now s.args.base s.args.set l.all l.p-iterator.rest c.class_at.result some
          l.invariant.2 (rw is at c.class_at.ensures) l.invariant.3,
    )

pub returns : goal.returns
returns c =
    let l = c.loop-p in
    classes-end _ _ _ l.all l.p-iterator.rest c.in-None.ensures.steps.0 l.invariant.3
