-- `late` meets its contract: the line is told by its opening word.
use Rattle.std.proofs.Common.{◌≡◌, Some, None, Err, rules}
use Rattle.syntax.specs.declared.refusal.Refusal.TheVariants.{BadLine}
use Rattle.reading.specs.Text.{list_word}
use Rattle.reading.specs.PartLaws.{behind-none, behind-some}
use Rattle.reading.specs.TellingLaws.{late-told-list, late-told-other}
use Rattle.reading.proofs.tables.Tables.late.Goals as goal

pub returns-in_err-rest-clause-gives : goal.returns-in_err-rest-clause-gives
returns-in_err-rest-clause-gives c =
    let a = c.args in
    let none : c.behind.result ≡ None = search rules in
    let same : c.from_residual.result ≡ Err BadLine = search rules in
    rw same (late-told-other a.text.now _ a.p _ _ (behind-none a.text.now a.line list_word c.behind.result c.behind.ensures none))

pub returns-clause-gives : goal.returns-clause-gives
returns-clause-gives c =
    let a = c.args in
    let some : c.behind.result ≡ Some c.in_ok-rest.rest = search rules in
    late-told-list _ _ (behind-some a.text.now a.line list_word c.behind.result c.in_ok-rest.rest c.behind.ensures some).0 c.list.ensures.gives
