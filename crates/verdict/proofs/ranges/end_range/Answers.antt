use mathlib.Core.Path.{sym, ◌∙◌}
use Rattle.places.specs.Words.{number_of}
use Rattle.verdict.specs.RangesTurns.{ends-start, ends-turn, ends-closed, ends-end, going-block}
use native.Mathlib.Omega.{arith}
use Rattle.verdict.proofs.ranges.end_range.Goals as goal

pub loop-k-init : goal.loop-k-init
loop-k-init c =
    let s = c in
    let a = s.args in
    (s.requires.0, ends-start a.n a.v (number_of a.words.now) a.at a.reached.now a.table.now _)

pub row_at-part-requires : goal.row_at-part-requires
row_at-part-requires c =
    let p = c.requires in
    let e = c.block-len.ensures in
    (c.loop-k.invariant.0, e.some, e.word, omega (arith, e.inside, p.3))

pub add_states-requires : goal.add_states-requires
add_states-requires c =
    let s = c in
    let a = s.args in
    let p = s.requires in
    let l = c.loop-k in (
      l.invariant.0,
      p.1,
      omega (arith, c.loop-k-test.true, p.3),
      (
        a.n,
        going-block a.n l.k a.v a.at c.block-len.result c.row_at-part.result a.reached.now a.table.now (number_of l.words)
            c.block-len.ensures c.row_at-part.ensures p.4
            (ends-closed a.n l.k a.v a.at a.reached.now a.table.now _ l.words p.4 p.7 p.2 l.invariant.1 p.5)
            p.6 p.7,
      ),
    )

pub loop-k-smaller : goal.loop-k-smaller
loop-k-smaller c = omega (arith, c.loop-k-test.true)

pub loop-k-preserved : goal.loop-k-preserved
loop-k-preserved c =
    let s = c in
    let a = s.args in
    let p = s.requires in
    let l = c.loop-k in
    let add-states = c.add_states in (
      add-states.auto.words ∙ l.invariant.0,
      ends-turn a.n l.k a.v a.at a.reached.now a.table.now _ l.words p.4 p.7 p.2 l.invariant.1
          c.block-len.result c.row_at-part.result _ c.block-len.ensures c.row_at-part.ensures add-states.ensures,
    )

pub shape_of-words : goal.shape_of-words
shape_of-words c = c.loop-k.invariant.0 ∙ sym c.requires.0

pub returns : goal.returns
returns c =
    let a = c.args in
    let l = c.loop-k in
    ends-end a.n l.k a.v (number_of a.words.now) a.at a.reached.now a.table.now _ l.words
    (omega (arith, c.loop-k-test.false)) l.invariant.1
