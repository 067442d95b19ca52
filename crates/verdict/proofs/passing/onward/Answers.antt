use mathlib.Core.Bool.{false≢true}
use borrow.Author.Count.{below_more}
use Rattle.verdict.specs.PassingTurns.{RowOnward}
use native.Mathlib.Omega.{arith}
use Rattle.verdict.proofs.passing.onward.Goals as goal

pub loop-q-init : goal.loop-q-init
loop-q-init c = λ p h. absurd (omega arith)

pub returns-then-not-row_onward : goal.returns-then-not-row_onward
returns-then-not-row_onward c = λ e. absurd (false≢true e)

pub loop-q-preserved : goal.loop-q-preserved
loop-q-preserved c =
    let l = c.loop-q in
    let a = c.args in
    below_more (λ q. RowOnward a.accepting.now a.table.now q a.lists) l.q l.invariant
    (c.row_onward.ensures c.if-not-row_onward.false)

pub returns : goal.returns
returns c =
    let l = c.loop-q in
    λ e p h. l.invariant p (omega arith)
