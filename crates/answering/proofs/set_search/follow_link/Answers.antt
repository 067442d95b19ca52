-- `follow_link` meets its contract: a link whose symbol or end is out of range is not followed.
use Rattle.answering.specs.Pairs.{row_below}
use Rattle.answering.specs.SetSteps.{row-added, row-symbol, row-end}
use native.Mathlib.Omega.{arith}
use Rattle.answering.proofs.set_search.follow_link.Goals as goal

pub returns-then-sizes-a : goal.returns-then-sizes-a
returns-then-sizes-a c =
    row-symbol c.requires.0 c.if-sizes-a.true

pub returns-then-sizes-y : goal.returns-then-sizes-y
returns-then-sizes-y c =
    row-end c.requires.0 c.if-sizes-y.true

pub add_states-requires : goal.add_states-requires
add_states-requires c =
    let z = c.args.sizes in
    let p = c.requires in
    let h = p.1 in
    (p.0, c.if-sizes-y.false, omega (arith, row_below z.words z.symbols c.if-sizes-a.false))

pub returns : goal.returns
returns c =
    row-added c.if-sizes-a.false c.if-sizes-y.false c.add_states.ensures
