-- `label` meets its contract: the name is looked up among the labels' names, and stored behind them.
use Rattle.std.proofs.Common.{refl}
use Rattle.reading.specs.Lent.{held}
use Rattle.reading.specs.NamesLaws.{told}
use Rattle.reading.specs.LabelLaws.{label-told-many, label-told-bad, label-told}
use Rattle.reading.proofs.tables.Tables.label.Goals as goal

pub returns-then-labels-ge32-clause-gives : goal.returns-then-labels-ge32-clause-gives
returns-then-labels-ge32-clause-gives c =
    let a = c.args in
    label-told-many a.text.now _ a.p (held a.self.now) _ c.if-labels-ge32.true

pub returns-then-not-fresh-clause-gives : goal.returns-then-not-fresh-clause-gives
returns-then-not-fresh-clause-gives c =
    let a = c.args in
    label-told-bad a.text.now _ a.p (held a.self.now) _ c.if-labels-ge32.false
    (told a.text.now c.of.ensures refl c.fresh.ensures c.if-not-fresh.true)

pub returns-clause-gives : goal.returns-clause-gives
returns-clause-gives c =
    let a = c.args in
    label-told a.text.now a.p a.name (held a.self.now) c.requires.names c.if-labels-ge32.false
    (told a.text.now c.of.ensures refl c.fresh.ensures c.if-not-fresh.false)
