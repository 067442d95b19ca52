use Rattle.std.specs.Prelude.{◌+◌, ◌*◌, ◌<◌, length, set}
use mathlib.Core.Path.{refl, ◌∙◌}
use lib.ListN.{length-set}
use Rattle.places.specs.Words.{number_of}
use Rattle.verdict.specs.CoverBounds.{state-places, few-states}
use Rattle.verdict.specs.TurnedTurns.{next-column}
use Rattle.verdict.specs.WideRowsTurns.{lay-turn, lay-end}
use native.Mathlib.Omega.{arith}
use Rattle.verdict.proofs.wide_rows.lay_rows.Goals as goal

pub loop-q-init : goal.loop-q-init
loop-q-init c = (omega arith, refl, record { exact = λ x y h. absurd (omega arith) })

pub overflow_mul-at : goal.overflow_mul-at
overflow_mul-at c =
    let s = c in
    let a = s.args in
    let p = s.requires in
    omega (arith, c.loop-q-test.true, few-states a.states a.w (omega (arith, p.1)) p.3)

pub offset_bounds-laid-at : goal.offset_bounds-laid-at
offset_bounds-laid-at c =
    let s = c in
    let a = s.args in
    let p = s.requires in
    omega (arith, c.loop-q-test.true, few-states a.states a.w (omega (arith, p.1)) p.3)

pub overflow_add-laid : goal.overflow_add-laid
overflow_add-laid c =
    let s = c in
    let a = s.args in
    let p = s.requires in
    omega (arith, c.loop-q-test.true, few-states a.states a.w (omega (arith, p.1)) p.3)

pub offset_bounds-laid-at-in-loop-q : goal.offset_bounds-laid-at-in-loop-q
offset_bounds-laid-at-in-loop-q c =
    let s = c in
    let a = s.args in
    let p = s.requires in
    omega (arith, c.loop-q-test.true, few-states a.states a.w (omega (arith, p.1)) p.3)

pub bounds-laid-at-in-loop-q : goal.bounds-laid-at-in-loop-q
bounds-laid-at-in-loop-q c =
    let s = c in
    let p = s.requires in
    let l = c.loop-q in
    let room : 2 * l.q + 1 < length (set l.laid (2 * l.q) 0) =
    omega (arith, length-set l.laid (2 * l.q) 0, l.invariant.1, p.5, c.loop-q-test.true) in
    room

pub row_at-requires : goal.row_at-requires
row_at-requires c =
    let s = c in
    let a = s.args in
    let p = s.requires in
    let l = c.loop-q in (
      p.4,
      omega arith,
      omega arith,
      omega (arith, p.1, p.3, l.invariant.0, state-places a.w a.states l.q c.loop-q-test.true),
    )

pub follow_part-requires : goal.follow_part-requires
follow_part-requires c =
    let s = c in
    let p = s.requires in
    let l = c.loop-q in (
      omega (arith, p.0),
      omega (
        arith,
        length-set l.laid (2 * l.q) 0,
        length-set (set l.laid (2 * l.q) 0) (2 * l.q + 1) 0,
        l.invariant.1,
        p.5,
        c.loop-q-test.true,
      ),
    )

pub overflow_add-from : goal.overflow_add-from
overflow_add-from c =
    let s = c in
    let l = c.loop-q in
    let test = c.loop-q-test in
    let a = s.args in
    let p = s.requires in
    omega (arith, p.1, p.3, l.invariant.0, state-places a.w a.states l.q test.true)

pub row_at-requires-in-loop-q : goal.row_at-requires-in-loop-q
row_at-requires-in-loop-q c =
    let s = c in
    let l = c.loop-q in
    let test = c.loop-q-test in
    let a = s.args in
    let p = s.requires in (
      p.4,
      omega (arith, p.1),
      omega (arith, p.2),
      omega (arith, p.1, p.3, l.invariant.0, state-places a.w a.states l.q test.true),
    )

pub follow_part-requires-in-loop-q : goal.follow_part-requires-in-loop-q
follow_part-requires-in-loop-q c =
    let s = c in
    let p = s.requires in
    let follow-part = c.follow_part in
    let test = c.loop-q-test in
    let l = c.loop-q in (
      omega (arith, p.0),
      omega (
        arith,
        follow-part.auto.laid,
        length-set l.laid (2 * l.q) 0,
        length-set (set l.laid (2 * l.q) 0) (2 * l.q + 1) 0,
        l.invariant.1,
        p.5,
        test.true,
      ),
    )

pub overflow_add-from-in-loop-q : goal.overflow_add-from-in-loop-q
overflow_add-from-in-loop-q c =
    let s = c in
    let p = s.requires in
    let l = c.loop-q in
    let test = c.loop-q-test in
    let a = s.args in
    omega (arith, p.3, l.invariant.0, state-places a.w a.states l.q test.true)

pub loop-q-preserved : goal.loop-q-preserved
loop-q-preserved c =
    let s = c in
    let test = c.loop-q-test in
    let follow-part2 = c.follow_part-in-loop-q in
    let follow-part = c.follow_part in
    let row_at = c.row_at in
    let row-at2 = c.row_at-in-loop-q in
    let p = s.requires in
    let a = s.args in
    let l = c.loop-q in
    let h = test.true in (
      next-column a.w l.from l.q l.invariant.0,
      follow-part2.auto.laid ∙ follow-part.auto.laid ∙ length-set (set l.laid (2 * l.q) 0) (2 * l.q + 1) 0
          ∙ length-set l.laid (2 * l.q) 0 ∙ l.invariant.1,
      lay-turn a.rows.now l.laid follow-part.new.laid follow-part2.new.laid a.w l.q l.from
          (number_of a.words.now) row_at.result row-at2.result p.1 p.2 l.invariant.0 (omega (arith, l.invariant.1, p.5, h))
          row_at.ensures row-at2.ensures follow-part.ensures follow-part2.ensures l.invariant.2,
    )

pub shape_of-laid : goal.shape_of-laid
shape_of-laid c = c.loop-q.invariant.1

pub returns : goal.returns
returns c =
    let s = c in
    let a = s.args in
    let l = c.loop-q in
    lay-end a.rows.now l.laid a.w l.q a.states (number_of a.words.now) (omega (arith, c.loop-q-test.false)) l.invariant.2
