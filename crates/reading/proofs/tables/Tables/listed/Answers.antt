-- `listed` meets its contract: the name is looked up among the lists' names, the expression is read over the labels into the rows behind
-- the other lists', and the name is stored behind theirs.
use Rattle.std.proofs.Common.{◌≡◌, ◌∙◌, ◌+◌, ◌-◌, Ok, Err, ap, take, drop, rules}
use Rattle.reading.specs.Lent.{held}
use Rattle.reading.specs.NamesLaws.{told}
use Rattle.reading.specs.ListLaws.{list-told-many, list-told-name, list-told-faulty, list-told-fine}
use native.Mathlib.Omega.{arith}
use Rattle.reading.proofs.tables.Tables.listed.Goals as goal

pub returns-then-lists-ge16-clause-gives : goal.returns-then-lists-ge16-clause-gives
returns-then-lists-ge16-clause-gives c =
    let a = c.args in
    λ more split. list-told-many a.text.now a.p a.name a.s (held a.self.now) more split _ c.if-lists-ge16.true

pub returns-then-not-fresh-clause-gives : goal.returns-then-not-fresh-clause-gives
returns-then-not-fresh-clause-gives c =
    let a = c.args in
    let m : 32 + a.p.lists - 32 ≡ a.p.lists = omega arith in
    λ more split.
    list-told-name a.text.now a.p a.name a.s (held a.self.now) more split _ c.if-lists-ge16.false
    (told a.text.now c.of.ensures (ap (λ k. take k (drop 32 a.self.now.names.now)) m) c.fresh.ensures c.if-not-fresh.true)

pub returns-in_err-expression-clause-gives : goal.returns-in_err-expression-clause-gives
returns-in_err-expression-clause-gives c =
    let a = c.args in
    let m : 32 + a.p.lists - 32 ≡ a.p.lists = omega arith in
    let bad : c.expression.result ≡ Err c.in_err-expression.field-0.0 = search rules in
    let same : c.from_residual.result ≡ Err c.in_err-expression.field-0.0 = search rules in
    rw same (λ more split.
    list-told-faulty a.text.now a.p a.name a.s (held a.self.now) more split c.if-lists-ge16.false
    (told a.text.now c.of.ensures (ap (λ k. take k (drop 32 a.self.now.names.now)) m) c.fresh.ensures c.if-not-fresh.false) _
    (rw bad at c.expression.ensures.reads))

pub returns-clause-gives : goal.returns-clause-gives
returns-clause-gives c =
    let a = c.args in
    let m : 32 + a.p.lists - 32 ≡ a.p.lists = omega arith in
    let fine : c.expression.result ≡ Ok tt = search rules in
    λ more split.
    list-told-fine a.text.now a.p a.name a.s (held a.self.now) more split c.if-lists-ge16.false
    (told a.text.now c.of.ensures (ap (λ k. take k (drop 32 a.self.now.names.now)) m) c.fresh.ensures c.if-not-fresh.false)
    _ (c.expression.ensures.same.5 ∙ c.requires.whole.names) (rw fine at c.expression.ensures.reads)
