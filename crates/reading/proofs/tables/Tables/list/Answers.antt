-- `list` meets its contract: the line is cut at its second space.
use mathlib.Core.Path.{◌≡◌, ap, ◌∙◌}
use Rattle.std.proofs.Common.{Some, None, Err, sym, rules}
use Rattle.syntax.specs.declared.refusal.Refusal.TheVariants.{BadLine}
use Rattle.reading.specs.Text.{space}
use Rattle.reading.specs.Scan.{first, uncut-none}
use Rattle.reading.specs.PartLaws.{cut-part}
use Rattle.reading.specs.ListLaws.{list-told-uncut}
use Rattle.reading.proofs.tables.Tables.list.Goals as goal

pub returns-in_err-n-clause-gives : goal.returns-in_err-n-clause-gives
returns-in_err-n-clause-gives c =
    let a = c.args in
    let none : first space c.of.result.now ≡ None = sym c.find_byte.ensures ∙ (search rules) in
    let same : c.from_residual.result ≡ Err BadLine = search rules in
    rw same (list-told-uncut a.text.now _ a.p _ _ (uncut-none space _ (ap (first space) (sym c.of.ensures) ∙ none)))

pub returns-clause-gives : goal.returns-clause-gives
returns-clause-gives c =
    let a = c.args in
    let found : first space c.of.result.now ≡ Some c.in_ok-n.n = sym c.find_byte.ensures ∙ (search rules) in
    c.listed.ensures.gives _ (cut-part a.text.now a.rest c.requires.1 space c.in_ok-n.n (ap (first space) (sym c.of.ensures) ∙ found))
