use Rattle.std.specs.Prelude.{◌+◌, ◌-◌, ◌*◌, ◌≤◌}
use mathlib.Core.Path.{sym, ◌∙◌, subst}
use lib.Bits.{and_le_r}
use lib.Count.{trailing_le}
use Rattle.places.specs.Words.{number_of}
use Rattle.places.specs.NextPlace.{trailing-here}
use Rattle.verdict.specs.ColumnOffsets.{offset_from}
use Rattle.verdict.specs.Ranges.{RangeAt, Adds}
use Rattle.verdict.specs.RangesTurns.{left-start, left-turn, left_end}
use native.Mathlib.Omega.{arith}
use Rattle.std.proofs.Common.{rules}
use Rattle.verdict.proofs.ranges.join_ranges.Goals as goal

pub loop-p-init : goal.loop-p-init
loop-p-init c =
    let s = c in
    let a = s.args in
    rw (c.into_iter-p-iterator.ensures.into_iter_gives, c.members-p-items.ensures) (search rules, search rules, omega arith, s.requires.1, left-start {New = λ o. RangeAt a.n (number_of a.set.now) (a.n * offset_from a.base o) a.to} _ _)

pub offset_from-o-requires : goal.offset_from-o-requires
offset_from-o-requires c =
    let (some, is, left) = c.in-Some.ensures.steps in
    omega (arith, trailing_le 64 c.loop-p.p-iterator.rest, c.requires.2)

pub overflow_mul-n : goal.overflow_mul-n
overflow_mul-n c =
    let (some, is, left) = c.in-Some.ensures.steps in
    let here = rw (← is) at (trailing-here 64 c.loop-p.p-iterator.rest some c.loop-p.invariant.2) in
    let s = c in
    let l = c.loop-p in
    let t = c.in-Some.p in
    let place : s.args.n * c.offset_from-o.result + s.args.n ≤ 1024 =
    subst (λ z. s.args.n * z + s.args.n ≤ 1024) (sym c.offset_from-o.ensures)
    (s.requires.4 t (l.invariant.4.part t here)) in
    omega arith

pub put_range-requires : goal.put_range-requires
put_range-requires c =
    let (some, is, left) = c.in-Some.ensures.steps in
    let here = rw (← is) at (trailing-here 64 c.loop-p.p-iterator.rest some c.loop-p.invariant.2) in
    let s = c in
    let l = c.loop-p in
    let t = c.in-Some.p in
    let place : s.args.n * c.offset_from-o.result + s.args.n ≤ 1024 =
    subst (λ z. s.args.n * z + s.args.n ≤ 1024) (sym c.offset_from-o.ensures)
    (s.requires.4 t (l.invariant.4.part t here)) in
    (s.requires.0, l.invariant.3, place, s.requires.3)

pub loop-p-preserved : goal.loop-p-preserved
loop-p-preserved c =
    let (some, is, left) = c.in-Some.ensures.steps in
    let a = c.args in
    let l = c.loop-p in
    let put-range = c.put_range in
    rw left (
      search rules,
      search rules,
      omega (arith, l.invariant.2, and_le_r l.p-iterator.rest (l.p-iterator.rest - 1)),
      put-range.auto.words ∙ l.invariant.3,
      left-turn {New = λ o. RangeAt a.n (number_of a.set.now) (a.n * offset_from a.base o) a.to} a.from _ l.words _ l.p-iterator.rest some l.invariant.2
          (subst (λ z. Adds (RangeAt a.n (number_of a.set.now) (a.n * z) a.to) l.words put-range.new.words) (rw is at c.offset_from-o.ensures)
          put-range.ensures) l.invariant.4,
    )

pub shape_of-words : goal.shape_of-words
shape_of-words c = c.loop-p.invariant.3 ∙ sym c.requires.1

pub returns : goal.returns
returns c =
    let a = c.args in
    let l = c.loop-p in
    left_end {New = λ o. RangeAt a.n (number_of a.set.now) (a.n * offset_from a.base o) a.to} a.from _ l.words l.p-iterator.rest c.in-None.ensures.steps.0 l.invariant.4
