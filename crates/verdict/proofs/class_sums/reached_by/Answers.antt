use Rattle.std.specs.Prelude.{◌+◌, ◌-◌, ◌*◌, get_or}
use lib.Bits.{and_le_r}
use lib.Count.{trailing_le}
use Rattle.places.specs.NextPlace.{trailing-here}
use Rattle.places.specs.Followed.{followed-start, followed-turn, followed-end, rest-within}
use Rattle.verdict.specs.ClassSumsTurns.{reached_by}
use native.Mathlib.Omega.{arith}
use Rattle.std.proofs.Common.{rules}
use Rattle.verdict.proofs.class_sums.reached_by.Goals as goal

pub loop-v-init : goal.loop-v-init
loop-v-init c = rw (c.into_iter-v-iterator.ensures.into_iter_gives, c.members-v-items.ensures) (search rules, search rules, omega arith, λ i m. m, followed-start (λ v. get_or c.args.passes.now (get_or c.args.table.now (16 * c.args.q + v) 0) 0) c.args.set)

pub overflow_mul-all : goal.overflow_mul-all
overflow_mul-all c = omega (arith, c.requires.0)

pub overflow_add-all : goal.overflow_add-all
overflow_add-all c =
    let (some, is, left) = c.in-Some.ensures.steps in
    omega (arith, c.requires.0, trailing_le 64 c.loop-v.v-iterator.rest)

pub offset_bounds-table-q : goal.offset_bounds-table-q
offset_bounds-table-q c =
    let (some, is, left) = c.in-Some.ensures.steps in
    omega (arith, c.requires.0, trailing_le 64 c.loop-v.v-iterator.rest)

pub bounds-table-q : goal.bounds-table-q
bounds-table-q c =
    let (some, is, left) = c.in-Some.ensures.steps in
    let here = rw (← is) at (trailing-here 64 c.loop-v.v-iterator.rest some c.loop-v.invariant.2) in
    let l = c.loop-v in
    let s = c in
    (s.requires.2 c.in-Some.v (l.invariant.3 _ here)).1

pub overflow_cast-all : goal.overflow_cast-all
overflow_cast-all c =
    let (some, is, left) = c.in-Some.ensures.steps in
    let here = rw (← is) at (trailing-here 64 c.loop-v.v-iterator.rest some c.loop-v.invariant.2) in
    let l = c.loop-v in
    let s = c in
    omega (arith, (s.requires.2 c.in-Some.v (l.invariant.3 _ here)).2)

pub offset_bounds-passes-table : goal.offset_bounds-passes-table
offset_bounds-passes-table c =
    let (some, is, left) = c.in-Some.ensures.steps in
    let here = rw (← is) at (trailing-here 64 c.loop-v.v-iterator.rest some c.loop-v.invariant.2) in
    let l = c.loop-v in
    let s = c in
    omega (arith, (s.requires.2 c.in-Some.v (l.invariant.3 _ here)).2)

pub bounds-passes-table : goal.bounds-passes-table
bounds-passes-table c =
    let (some, is, left) = c.in-Some.ensures.steps in
    let here = rw (← is) at (trailing-here 64 c.loop-v.v-iterator.rest some c.loop-v.invariant.2) in
    let l = c.loop-v in
    let s = c in
    omega (arith, s.requires.1, (s.requires.2 c.in-Some.v (l.invariant.3 _ here)).2)

pub loop-v-preserved : goal.loop-v-preserved
loop-v-preserved c =
    let (some, is, left) = c.in-Some.ensures.steps in
    let l = c.loop-v in
    let s = c in
    let d = some in
    rw (is, left) (
      search rules,
      search rules,
      omega (arith, l.invariant.2, and_le_r l.v-iterator.rest (l.v-iterator.rest - 1)),
      rest-within s.args.set l.v-iterator.rest l.invariant.3 d l.invariant.2,
      followed-turn (λ v. get_or s.args.passes.now (get_or s.args.table.now (16 * s.args.q + v) 0) 0) s.args.set l.all l.v-iterator.rest d l.invariant.2 l.invariant.4,
    )

pub returns : goal.returns
unfolding reached_by
returns c =
    let l = c.loop-v in
    let a = c.args in
    followed-end (λ v. get_or a.passes.now (get_or a.table.now (16 * a.q + v) 0) 0) a.set l.all l.v-iterator.rest c.in-None.ensures.steps.0 l.invariant.4
