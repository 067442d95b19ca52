-- `behind` meets its contract: what comes after a word begins where the word ends.
use Rattle.std.proofs.Common.{◌∙◌, sym, ap}
use Rattle.reading.specs.Scan.{begins}
use Rattle.reading.specs.PartLaws.{is-behind, is-other}
use Rattle.reading.proofs.line.behind.Goals as goal

pub returns-then-not-starts_with : goal.returns-then-not-starts_with
returns-then-not-starts_with c =
    let a = c.args in
    is-other a.text.now a.line a.word.now (sym (c.starts_with.ensures.value ∙ ap (begins a.word.now) c.of.ensures) ∙ c.if-not-starts_with.true)

pub returns : goal.returns
returns c =
    let a = c.args in
    is-behind a.text.now a.line a.word.now c.requires (sym (c.starts_with.ensures.value ∙ ap (begins a.word.now) c.of.ensures) ∙ c.if-not-starts_with.false)
