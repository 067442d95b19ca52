-- `Names::find` meets its contract: a name of one byte is looked for as a letter.
use Rattle.std.proofs.Common.{◌∙◌, ap, sym}
use Rattle.syntax.specs.Byte.{Bytes}
use Rattle.syntax.specs.Name.{place_of}
use Rattle.syntax.specs.NameLaws.{one_byte}
use Rattle.syntax.specs.Resolve.{names_at}
use Rattle.syntax.specs.TableLaws.{place-position}
use Rattle.syntax.proofs.table.Names.find.Goals as goal

pub returns-then-name-eq1 : goal.returns-then-name-eq1
returns-then-name-eq1 c =
    let a = c.args in
    c.find_letter.ensures ∙ ap (λ (n : Bytes). place_of n (names_at a.self.text.now a.self.spans.now)) (one_byte a.name.now c.if-name-eq1.true)

pub returns-in_err-place : goal.returns-in_err-place
returns-in_err-place c =
    let a = c.args in
    c.from_residual.ensures ∙ sym c.in_err-place.was ∙ c.place.ensures ∙ sym (place-position a.self.text.now a.name.now a.self.spans.now)

pub returns : goal.returns
returns c =
    let a = c.args in
    sym c.in_ok-place.was ∙ c.place.ensures ∙ sym (place-position a.self.text.now a.name.now a.self.spans.now)
