-- `joined` meets its contract: the start is among the places, or it is not.
use mathlib.Core.Path.{ap, ◌∙◌}
use native.Mathlib.Omega.{arith}
use lib.Bits.{and_mask}
use Rattle.std.specs.Prelude.{get_or}
use Rattle.theory.specs.Places.{union}
use Rattle.verdict.specs.ColumnLists.{below-after, start-below, joined-start, joined-inner, joined-after}
use Rattle.verdict.proofs.column_steps.joined.Goals as goal

pub overflow_sub-from : goal.overflow_sub-from
overflow_sub-from c = omega (arith, and_mask c.args.from 1)

pub join-inner-requires : goal.join-inner-requires
join-inner-requires c = λ p m.
    let s = c in
    omega (arith, below-after s.args.base s.args.from _ s.requires p m)

pub bounds-columns-0 : goal.bounds-columns-0
bounds-columns-0 c =
    let s = c in
    start-below s.args.base s.args.from _ s.requires c.if-start-eq1.true

pub returns-then-start-eq1 : goal.returns-then-start-eq1
returns-then-start-eq1 c =
    let s = c in
    ap (union (get_or s.args.columns.now 0 0))
    (c.join-inner.ensures ∙ joined-after s.args.columns.now s.args.base s.args.from (omega arith))
    ∙ joined-start s.args.columns.now s.args.base s.args.from c.if-start-eq1.true

pub returns : goal.returns
returns c =
    let s = c in
    c.join-inner.ensures
    ∙ joined-after s.args.columns.now s.args.base s.args.from (omega arith)
    ∙ joined-inner s.args.columns.now s.args.base s.args.from c.if-start-eq1.false
