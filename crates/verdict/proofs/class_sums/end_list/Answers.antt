use Rattle.std.specs.Prelude.{◌-◌}
use mathlib.Core.Path.{◌∙◌}
use lib.Bits.{and_le_r}
use lib.Count.{count_trailing_zeros}
use lib.ListN.{length-set}
use Rattle.places.specs.NextPlace.{trailing-here}
use Rattle.verdict.specs.ClassSumsTurns.{ends-start, ends-turn, ends-end}
use native.Mathlib.Omega.{arith}
use Rattle.std.proofs.Common.{rules}
use Rattle.verdict.proofs.class_sums.end_list.Goals as goal

pub loop-i-init : goal.loop-i-init
loop-i-init c = rw (c.into_iter-i-iterator.ensures.into_iter_gives, c.members-i-items.ensures) (search rules, search rules, omega arith, c.requires.1, ends-start _ _ _ _ _)

pub overflow_add-base : goal.overflow_add-base
overflow_add-base c =
    let (some, is, left) = c.in-Some.ensures.steps in
    let here = rw (← is) at (trailing-here 64 c.loop-i.i-iterator.rest some c.loop-i.invariant.2) in
    let l = c.loop-i in
    omega (arith, (c.requires.2 c.in-Some.i (l.invariant.4.within _ here)).0)

pub overflow_add-base-in-loop-i : goal.overflow_add-base-in-loop-i
overflow_add-base-in-loop-i c =
    let (some, is, left) = c.in-Some.ensures.steps in
    let here = rw (← is) at (trailing-here 64 c.loop-i.i-iterator.rest some c.loop-i.invariant.2) in
    let l = c.loop-i in
    omega (arith, (c.requires.2 c.in-Some.i (l.invariant.4.within _ here)).0)

pub class_at-c-requires : goal.class_at-c-requires
class_at-c-requires c =
    let (some, is, left) = c.in-Some.ensures.steps in
    let here = rw (← is) at (trailing-here 64 c.loop-i.i-iterator.rest some c.loop-i.invariant.2) in
    let l = c.loop-i in
    (c.requires.2 c.in-Some.i (l.invariant.4.within _ here)).0

pub offset_bounds-ends-c : goal.offset_bounds-ends-c
offset_bounds-ends-c c =
    let (some, is, left) = c.in-Some.ensures.steps in
    let here = rw (← is) at (trailing-here 64 c.loop-i.i-iterator.rest some c.loop-i.invariant.2) in
    let l = c.loop-i in
    omega (arith, c.class_at-c.ensures, (c.requires.2 c.in-Some.i (l.invariant.4.within _ here)).1)

pub bounds-ends-c : goal.bounds-ends-c
bounds-ends-c c =
    let (some, is, left) = c.in-Some.ensures.steps in
    let here = rw (← is) at (trailing-here 64 c.loop-i.i-iterator.rest some c.loop-i.invariant.2) in
    let l = c.loop-i in
    omega (arith, l.invariant.3, c.class_at-c.ensures, (c.requires.2 c.in-Some.i (l.invariant.4.within _ here)).1)

pub overflow_shl-ends : goal.overflow_shl-ends
overflow_shl-ends c = omega (arith, c.requires.0)

pub bounds-ends-c-in-loop-i : goal.bounds-ends-c-in-loop-i
bounds-ends-c-in-loop-i c =
    let (some, is, left) = c.in-Some.ensures.steps in
    let here = rw (← is) at (trailing-here 64 c.loop-i.i-iterator.rest some c.loop-i.invariant.2) in
    let l = c.loop-i in
    omega (arith, l.invariant.3, c.class_at-c.ensures, (c.requires.2 c.in-Some.i (l.invariant.4.within _ here)).1)

pub loop-i-preserved : goal.loop-i-preserved
loop-i-preserved c =
    let (some, is, left) = c.in-Some.ensures.steps in
    let l = c.loop-i in
    let s = c in
    let a = s.args in
    let d = some in
    let inside = (s.requires.2 (count_trailing_zeros 64 l.i-iterator.rest) (l.invariant.4.within _ (trailing-here 64 l.i-iterator.rest d l.invariant.2))).1 in
    rw left (
      search rules,
      search rules,
      omega (arith, l.invariant.2, and_le_r l.i-iterator.rest (l.i-iterator.rest - 1)),
      length-set l.ends _ _ ∙ l.invariant.3,
      ends-turn a.set a.base a.v a.classes.now a.ends.now l.ends l.i-iterator.rest _ d l.invariant.2 s.requires.0
          (rw is at c.class_at-c.ensures) (omega (arith, inside, (rw is at c.class_at-c.ensures), l.invariant.3)) l.invariant.4,
    )

pub shape_of-ends : goal.shape_of-ends
shape_of-ends c = omega (arith, c.loop-i.invariant.3, c.requires.1)

pub returns : goal.returns
returns c =
    let l = c.loop-i in
    let a = c.args in
    ends-end a.set a.base a.v a.classes.now a.ends.now l.ends l.i-iterator.rest c.in-None.ensures.steps.0 l.invariant.4
