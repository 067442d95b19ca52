use Rattle.std.specs.Prelude.{◌+◌, ◌*◌, length, get_or}
use mathlib.Core.Path.{sym, ap, ◌∙◌, subst}
use lib.Bits.{and_le_r}
use Rattle.verdict.specs.CoverBounds.{state-places}
use Rattle.verdict.specs.TurnedTurns.{next-column}
use Rattle.verdict.specs.WideRowsTurns.{RowsWalked, walked_start, high-below, walked-some, walked_none, alone-room, walked_end, stepped-below}
use native.Mathlib.Omega.{arith}
use Rattle.verdict.proofs.wide_rows.step_rows.Goals as goal
use Rattle.verdict.proofs.wide_rows.step_rows.Goals.{else-low-high-ne0, then-low-high-ne0}

pub loop-q-init : goal.loop-q-init
loop-q-init c =
    let s = c in
    let p = s.requires in
    let a = s.args in
    (omega arith, p.11, walked_start _ _ _ _ _ _ a.words.now p.12)

pub put_row-requires : goal.put_row-requires
put_row-requires c =
    let s = c in
    let test = c.loop-q-test in
    let a = s.args in
    let p = s.requires in
    let l = c.loop-q in (
      l.invariant.1,
      p.5,
      p.6,
      omega (arith, p.8, l.invariant.0, state-places a.w a.states l.q test.true),
      high-below a.w a.lists a.a a.rows.now a.ended.now a.laid.now a.states l.q p.10 test.true p.5
          (omega (
            arith,
            and_le_r (get_or a.laid.now (2 * l.q + 1) 0) (get_or a.rows.now (256 + 2 * a.a + 1) 0),
            c.type_inv.rows (256 + 2 * a.a + 1),
          )),
    )

pub ended_row-alone-requires : goal.ended_row-alone-requires
ended_row-alone-requires c =
    let s = c in
    let p = s.requires in
    let test = c.loop-q-test in
    (p.0, p.1, p.2, omega (arith, test.true, p.7))

pub overflow_add-from : goal.overflow_add-from
overflow_add-from c =
    let s = c in
    let p = s.requires in
    let l = c.loop-q in
    let a = s.args in
    let test = c.loop-q-test in
    omega (arith, p.8, l.invariant.0, state-places a.w a.states l.q test.true)

pub loop-q-preserved : goal.loop-q-preserved
loop-q-preserved c =
    let s = c in
    let test = c.loop-q-test in
    let a = s.args in
    let l = c.loop-q in
    let Walked = RowsWalked a.w a.lists a.a a.rows.now a.ended.now a.laid.now in (
      next-column a.w l.from l.q l.invariant.0,
      (elim c.if-low-high-ne0.branch [ then-low-high-ne0 w ↦ ap length w.words-is ∙ w.put_row.auto.words ∙ l.invariant.1 | else-low-high-ne0 w ↦ ap length w.words-is ∙ l.invariant.1 ]),
      (elim c.if-low-high-ne0.branch [
        | then-low-high-ne0 w ↦
            subst (λ z. Walked z c.if-low-high-ne0.alone (l.q + 1)) (sym w.words-is) (subst (λ z. Walked w.put_row.new.words z (l.q + 1)) (sym w.alone-is)
            (walked-some a.w a.lists a.a a.rows.now a.ended.now a.laid.now l.words w.put_row.new.words l.alone l.q
            w.ended_row-alone.result l.from l.invariant.0 w.put_row.ensures w.ended_row-alone.ensures l.invariant.2))
        | else-low-high-ne0 w ↦
            subst (λ z. Walked z c.if-low-high-ne0.alone (l.q + 1)) (sym w.words-is) (subst (λ z. Walked l.words z (l.q + 1)) (sym w.alone-is)
            (walked_none a.w a.lists a.a a.rows.now a.ended.now a.laid.now l.words l.alone l.q w.if-low-high-ne0.false
            l.invariant.2))
      ]),
    )

pub put_alone-requires : goal.put_alone-requires
put_alone-requires c =
    let s = c in
    let a = s.args in
    let p = s.requires in
    let l = c.loop-q in (
      l.invariant.1,
      alone-room a.w a.lists a.a a.rows.now a.ended.now a.laid.now a.states l.q l.alone
          l.words p.3 (omega arith) p.8 (omega (arith, p.5)) l.invariant.2,
    )

pub shape_of-words : goal.shape_of-words
shape_of-words c =
    let s = c in
    let l = c.loop-q in
    let p = s.requires in
    c.put_alone.auto.words ∙ l.invariant.1 ∙ sym p.11

pub returns : goal.returns
returns c =
    let s = c in
    let put_alone = c.put_alone in
    let test = c.loop-q-test in
    let a = s.args in
    let p = s.requires in
    let l = c.loop-q in
    let stepped = walked_end a.w a.lists a.a a.rows.now a.ended.now a.laid.now a.states l.q l.alone l.words
    put_alone.new.words (omega (arith, test.false)) l.invariant.2 put_alone.ensures in (
      stepped,
      stepped-below a.w a.lists a.a a.rows.now a.ended.now a.laid.now a.states _ p.10 p.3 (omega (arith, p.5))
          stepped,
    )
