-- `query` meets its contract: the expression is read over the labels into the rows 0.
use Rattle.std.proofs.Common.{◌≡◌, Ok, Err, rules}
use Rattle.reading.specs.Lent.{held}
use Rattle.reading.specs.QueryLaws.{query-told-early, query-told-faulty, query-told-fine}
use Rattle.reading.proofs.tables.Tables.query.Goals as goal

pub returns-then-p-lt1-clause-gives : goal.returns-then-p-lt1-clause-gives
returns-then-p-lt1-clause-gives c =
    let a = c.args in
    query-told-early a.text.now _ a.p (held a.self.now) _ c.if-p-lt1.true

pub returns-in_err-expression-clause-gives : goal.returns-in_err-expression-clause-gives
returns-in_err-expression-clause-gives c =
    let a = c.args in
    let told : c.expression.result ≡ Err c.in_err-expression.field-0.0 = search rules in
    let same : c.from_residual.result ≡ Err c.in_err-expression.field-0.0 = search rules in
    rw same (query-told-faulty a.text.now _ a.p (held a.self.now) _ c.if-p-lt1.false (rw told at c.expression.ensures.reads))

pub returns-clause-gives : goal.returns-clause-gives
returns-clause-gives c =
    let a = c.args in
    let fine : c.expression.result ≡ Ok tt = search rules in
    query-told-fine a.text.now _ a.p (held a.self.now) _ c.if-p-lt1.false (rw fine at c.expression.ensures.reads)
