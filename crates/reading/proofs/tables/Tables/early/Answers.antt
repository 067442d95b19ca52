-- `early` meets its contract: the line is told by its opening word.
use Rattle.std.proofs.Common.{◌≡◌, Some, None, Err, rules}
use Rattle.syntax.specs.declared.refusal.Refusal.TheVariants.{BadLine}
use Rattle.reading.specs.Text.{label_word, query_word}
use Rattle.reading.specs.PartLaws.{behind-none, behind-some}
use Rattle.reading.specs.TellingLaws.{early-told-label, early-told-query, early-told-neither}
use Rattle.reading.proofs.tables.Tables.early.Goals as goal

pub returns-in-Some-clause-gives : goal.returns-in-Some-clause-gives
returns-in-Some-clause-gives c =
    let a = c.args in
    early-told-label _ _ (behind-some a.text.now a.line label_word c.behind.result c.in-Some.name c.behind.ensures c.in-Some.is).0
    c.label.ensures.gives

pub returns-in_err-s-clause-gives : goal.returns-in_err-s-clause-gives
returns-in_err-s-clause-gives c =
    let a = c.args in
    let none : c.behind.result ≡ None = search rules in
    let none' : c.behind-2.result ≡ None = search rules in
    let same : c.from_residual.result ≡ Err BadLine = search rules in
    rw same (early-told-neither a.text.now _ a.p _ _ (behind-none a.text.now a.line label_word c.behind.result c.behind.ensures none)
    (behind-none a.text.now a.line query_word c.behind-2.result c.behind-2.ensures none'))

pub returns-clause-gives : goal.returns-clause-gives
returns-clause-gives c =
    let a = c.args in
    let some : c.behind-2.result ≡ Some c.in_ok-s.s = search rules in
    early-told-query _ _ (behind-some a.text.now a.line query_word c.behind-2.result c.in_ok-s.s c.behind-2.ensures some).0 c.query.ensures.gives
