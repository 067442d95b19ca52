use Rattle.std.specs.Prelude.{◌+◌, ◌-◌, ◌*◌, ◌<◌, length, get_or, set}
use lib.Count.{trailing_le}
use lib.Bits.{and_le_r}
use lib.ListN.{length-set}
use Rattle.theory.specs.Places.{union}
use Rattle.places.specs.Followed.{followed-start, followed-turn, followed-end, least-small}
use Rattle.verdict.specs.WideRows.{Follows}
use Rattle.verdict.specs.WideRowsLaws.{joins_pair}
use Rattle.verdict.specs.WideRowsTurns.{follow-words}
use native.Mathlib.Omega.{arith}
use Rattle.std.proofs.Common.{rules}
use Rattle.verdict.proofs.wide_rows.follow_part.Goals as goal

pub loop-p-init : goal.loop-p-init
loop-p-init c =
    let s = c in
    rw (c.into_iter-p-iterator.ensures.into_iter_gives, c.members-p-items.ensures) (
      search rules,
      search rules,
      omega arith,
      followed-start (λ o. get_or s.args.rows.now (s.args.first + 2 * o) 0) s.args.part,
      followed-start (λ o. get_or s.args.rows.now (s.args.first + 2 * o + 1) 0) s.args.part,
    )

pub overflow_mul-entry : goal.overflow_mul-entry
overflow_mul-entry c =
    let (some, is, left) = c.in-Some.ensures.steps in
    omega (arith, trailing_le 64 c.loop-p.p-iterator.rest)

pub overflow_add-entry : goal.overflow_add-entry
overflow_add-entry c =
    let (some, is, left) = c.in-Some.ensures.steps in
    omega (arith, trailing_le 64 c.loop-p.p-iterator.rest, c.requires.0, c.well_formed.0)

pub offset_bounds-rows-entry : goal.offset_bounds-rows-entry
offset_bounds-rows-entry c =
    let (some, is, left) = c.in-Some.ensures.steps in
    omega (arith, trailing_le 64 c.loop-p.p-iterator.rest, c.requires.0, c.well_formed.0)

pub bounds-rows-entry : goal.bounds-rows-entry
bounds-rows-entry c =
    let (some, is, left) = c.in-Some.ensures.steps in
    let l = c.loop-p in
    let p = c.requires in
    omega (arith, least-small l.p-iterator.rest some l.invariant.2, p.0)

pub overflow_add-high : goal.overflow_add-high
overflow_add-high c =
    let (some, is, left) = c.in-Some.ensures.steps in
    let p = c.requires in
    let good = c.well_formed in
    omega (arith, trailing_le 64 c.loop-p.p-iterator.rest, p.0, good.0)

pub offset_bounds-rows-entry-in-loop-p : goal.offset_bounds-rows-entry-in-loop-p
offset_bounds-rows-entry-in-loop-p c =
    let (some, is, left) = c.in-Some.ensures.steps in
    let p = c.requires in
    let good = c.well_formed in
    omega (arith, trailing_le 64 c.loop-p.p-iterator.rest, p.0, good.0)

pub bounds-rows-entry-in-loop-p : goal.bounds-rows-entry-in-loop-p
bounds-rows-entry-in-loop-p c =
    let (some, is, left) = c.in-Some.ensures.steps in
    let s = c in
    let l = c.loop-p in
    let p = s.requires in
    omega (arith, least-small l.p-iterator.rest some l.invariant.2, p.0)

pub loop-p-preserved : goal.loop-p-preserved
loop-p-preserved c =
    let (some, is, left) = c.in-Some.ensures.steps in
    let s = c in
    let a = s.args in
    let l = c.loop-p in
    let d = some in
    rw (is, left) (
      search rules,
      search rules,
      omega (arith, l.invariant.2, and_le_r l.p-iterator.rest (l.p-iterator.rest - 1)),
      followed-turn (λ o. get_or a.rows.now (a.first + 2 * o) 0) a.part l.low l.p-iterator.rest d l.invariant.2 l.invariant.3,
      followed-turn (λ o. get_or a.rows.now (a.first + 2 * o + 1) 0) a.part l.high l.p-iterator.rest d l.invariant.2 l.invariant.4,
    )

pub bounds-laid-at-3 : goal.bounds-laid-at-3
bounds-laid-at-3 c =
    let s = c in
    let l = c.loop-p in
    let p = s.requires in
    let a = s.args in
    let word = union (get_or a.laid.now a.at 0) l.low in
    let room : a.at + 1 < length (set a.laid.now a.at word) = omega (arith, length-set a.laid.now a.at word, p.1) in
    room

pub bounds-laid-at-4 : goal.bounds-laid-at-4
bounds-laid-at-4 c =
    let s = c in
    let l = c.loop-p in
    let p = s.requires in
    let a = s.args in
    let word = union (get_or a.laid.now a.at 0) l.low in
    let room : a.at + 1 < length (set a.laid.now a.at word) = omega (arith, length-set a.laid.now a.at word, p.1) in
    room

pub returns : goal.returns
returns c =
    let s = c in
    let p = s.requires in
    let a = s.args in
    let l = c.loop-p in
    let e = c.in-None.ensures.steps.0 in
    joins_pair a.laid.now a.at l.low l.high (Follows a.rows.now a.part a.first) p.1
    (follow-words a.rows.now a.part a.first l.low l.high (omega arith)
    (followed-end (λ o. get_or a.rows.now (a.first + 2 * o) 0) a.part l.low l.p-iterator.rest e l.invariant.3)
    (followed-end (λ o. get_or a.rows.now (a.first + 2 * o + 1) 0) a.part l.high l.p-iterator.rest e l.invariant.4))
