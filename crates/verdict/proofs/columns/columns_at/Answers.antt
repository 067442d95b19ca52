use mathlib.Core.Path.{refl, ◌∙◌}
use lib.ListN.{length-set}
use Rattle.places.specs.Words.{number_of}
use Rattle.verdict.specs.CoverBounds.{few-columns}
use Rattle.verdict.specs.TurnedTurns.{column-room, next-column, unstacked-start, unstacked-turn, unstacked-end}
use native.Mathlib.Omega.{arith}
use Rattle.verdict.proofs.columns.columns_at.Goals as goal

pub loop-o-init : goal.loop-o-init
loop-o-init c = (omega arith, refl, unstacked-start _ _ _)

pub row_at-requires : goal.row_at-requires
row_at-requires c =
    let s = c in
    let l = c.loop-o in (
      s.requires.0,
      s.requires.2,
      s.requires.3,
      column-room s.args.w s.args.n l.at l.o c.loop-o-test.true s.requires.4 l.invariant.0,
    )

pub offset_bounds-columns-o : goal.offset_bounds-columns-o
offset_bounds-columns-o c =
    let s = c in
    omega (arith, c.loop-o-test.true, few-columns s.args.w s.args.n s.requires.2 s.requires.4)

pub bounds-columns-o : goal.bounds-columns-o
bounds-columns-o c = omega (arith, c.loop-o-test.true, c.requires.5, c.loop-o.invariant.1)

pub overflow_add-at : goal.overflow_add-at
overflow_add-at c =
    let s = c in
    let l = c.loop-o in
    omega (arith, column-room s.args.w s.args.n l.at l.o c.loop-o-test.true s.requires.4 l.invariant.0)

pub loop-o-preserved : goal.loop-o-preserved
loop-o-preserved c =
    let s = c in
    let l = c.loop-o in (
      next-column s.args.n l.at l.o l.invariant.0,
      length-set l.columns l.o _ ∙ l.invariant.1,
      unstacked-turn s.args.n l.columns (number_of s.args.words.now) l.at l.o c.row_at.result
          (omega (arith, c.loop-o-test.true, l.invariant.1, s.requires.5))
          l.invariant.0 c.row_at.ensures l.invariant.2,
    )

pub shape_of-columns : goal.shape_of-columns
shape_of-columns c = c.loop-o.invariant.1

pub returns : goal.returns
returns c =
    let s = c in
    let l = c.loop-o in
    unstacked-end s.args.w s.args.n l.columns (number_of s.args.words.now) l.o (omega (arith, c.loop-o-test.false)) l.invariant.2
