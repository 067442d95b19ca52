-- `fresh` meets its contract: a proper name is looked for.
use Rattle.std.proofs.Common.{◌≡◌, ◌∙◌, ap, sym, ◌&&◌, not, rules}
use Rattle.std.specs.Option.{is_some}
use Rattle.syntax.specs.Name.{place_of}
use Rattle.syntax.specs.Resolve.{names_at}
use Rattle.reading.specs.NamesLaws.{fresh-told}
use Rattle.reading.proofs.names.fresh.Goals as goal

pub returns-then-is_name : goal.returns-then-is_name
returns-then-is_name c =
    let a = c.args in
    let names = names_at a.names.text.now a.names.spans.now in
    let none : c.is_none.result ≡ not (is_some (place_of a.name.now names)) = search rules in
    none ∙ ap (λ b. b && not (is_some (place_of a.name.now names))) (sym c.if-is_name.true ∙ c.is_name.ensures) ∙ fresh-told a.name.now names

pub returns-else-is_name : goal.returns-else-is_name
returns-else-is_name c =
    let a = c.args in
    let names = names_at a.names.text.now a.names.spans.now in
    c.if-is_name.false ∙ ap (λ b. b && not (is_some (place_of a.name.now names))) (sym c.if-is_name.false ∙ c.is_name.ensures)
    ∙ fresh-told a.name.now names
