use Rattle.std.specs.Prelude.{◌+◌}
use mathlib.Core.Path.{sym, ◌∙◌}
use Rattle.places.specs.Words.{number_of}
use Rattle.verdict.specs.RangesTurns.{range-start, range-turn, range-end, row_below}
use native.Mathlib.Omega.{arith}
use Rattle.verdict.proofs.ranges.put_range.Goals as goal

pub loop-k-init : goal.loop-k-init
loop-k-init c = (c.requires.1, range-start c.args.n (number_of c.args.set.now) c.args.from c.args.to _)

pub row_at-requires : goal.row_at-requires
row_at-requires c =
    let p = c.requires in
    let e = c.block-len.ensures in
    (p.0, e.some, e.word, omega (arith, e.inside, p.2))

pub put_at-requires : goal.put_at-requires
put_at-requires c =
    let p = c.requires in
    let e = c.block-len.ensures in
    let l = c.loop-k in
    (l.invariant.0, row_below (number_of c.args.set.now) (c.args.from + c.loop-k.k) c.block-len.result c.row_at.result c.row_at.ensures, e.some, e.word, omega (arith, e.inside, p.3))

pub loop-k-smaller : goal.loop-k-smaller
loop-k-smaller c = omega (arith, c.loop-k-test.true)

pub loop-k-preserved : goal.loop-k-preserved
loop-k-preserved c =
    let s = c in
    let a = s.args in
    let l = c.loop-k in
    let put-at = c.put_at in
    let e = c.block-len.ensures in (
      put-at.auto.words ∙ l.invariant.0,
      range-turn a.n l.k c.block-len.result (number_of a.set.now) a.from a.to c.row_at.result _ l.words _ e s.requires.3
          l.invariant.1 c.row_at.ensures put-at.ensures,
    )

pub shape_of-words : goal.shape_of-words
shape_of-words c = c.loop-k.invariant.0 ∙ sym c.requires.1

pub returns : goal.returns
returns c =
    let a = c.args in
    let l = c.loop-k in
    range-end a.n l.k (number_of a.set.now) a.from a.to _ _ (omega (arith, c.loop-k-test.false)) l.invariant.1
