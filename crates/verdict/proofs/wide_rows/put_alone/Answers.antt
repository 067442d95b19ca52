use Rattle.std.specs.Prelude.{◌-◌}
use mathlib.Core.Path.{sym, ◌∙◌}
use lib.Bits.{and_le_r}
use lib.Count.{count_trailing_zeros}
use Rattle.places.specs.NextPlace.{trailing-here}
use Rattle.places.specs.Followed.{least-left}
use Rattle.verdict.specs.WideRowsTurns.{alone-start, alone-turn, alone-end}
use native.Mathlib.Omega.{arith}
use Rattle.std.proofs.Common.{rules}
use Rattle.verdict.proofs.wide_rows.put_alone.Goals as goal

pub loop-t-init : goal.loop-t-init
loop-t-init c = rw (c.into_iter-t-iterator.ensures.into_iter_gives, c.members-t-items.ensures) (search rules, search rules, omega arith, c.requires.0, c.requires.1, alone-start _ _ _)

pub overflow_mul-w : goal.overflow_mul-w
overflow_mul-w c =
    let (some, is, left) = c.in-Some.ensures.steps in
    let here = rw (← is) at (trailing-here 64 c.loop-t.t-iterator.rest some c.loop-t.invariant.2) in
    let l = c.loop-t in
    omega (arith, l.invariant.4 c.in-Some.t here)

pub put_at-requires : goal.put_at-requires
put_at-requires c =
    let (some, is, left) = c.in-Some.ensures.steps in
    let here = rw (← is) at (trailing-here 64 c.loop-t.t-iterator.rest some c.loop-t.invariant.2) in
    let l = c.loop-t in (
      l.invariant.3,
      omega arith,
      omega arith,
      omega arith,
      omega (arith, l.invariant.4 c.in-Some.t here),
    )

pub loop-t-preserved : goal.loop-t-preserved
loop-t-preserved c =
    let (some, is, left) = c.in-Some.ensures.steps in
    let s = c in
    let put-at = c.put_at in
    let a = s.args in
    let l = c.loop-t in
    let d = some in
    rw left (
      search rules,
      search rules,
      omega (arith, l.invariant.2, and_le_r l.t-iterator.rest (l.t-iterator.rest - 1)),
      put-at.auto.words ∙ l.invariant.3,
      λ t m. l.invariant.4 t ((least-left 64 l.t-iterator.rest d l.invariant.2 t).0 m).0,
      alone-turn a.w a.alone _ l.words _ l.t-iterator.rest d l.invariant.2
          (l.invariant.4 (count_trailing_zeros 64 l.t-iterator.rest) (trailing-here 64 l.t-iterator.rest d l.invariant.2)) (rw is at put-at.ensures) l.invariant.5,
    )

pub shape_of-words : goal.shape_of-words
shape_of-words c =
    let p = c.requires in
    c.loop-t.invariant.3 ∙ sym p.0

pub returns : goal.returns
returns c = alone-end _ _ _ _ c.loop-t.t-iterator.rest c.in-None.ensures.steps.0 c.loop-t.invariant.5
