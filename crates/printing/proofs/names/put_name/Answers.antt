-- `put_name` meets its contract: past the table's end there is no name.
use Rattle.std.proofs.Common.{◌∷◌, ap, sym, ◌∙◌, arith}
use Rattle.syntax.specs.Byte.{Bytes}
use Rattle.reading.specs.Text.{space}
use Rattle.output.specs.Writer.{puts_both, puts_same}
use Rattle.printing.specs.LinesLaws.{name-at, name-past}
use Rattle.printing.proofs.names.put_name.Goals as goal

pub returns-then-i-names : goal.returns-then-i-names
returns-then-i-names c =
    let a = c.args in
    let names = a.names in
    let e = (rw c.from-i.ensures at c.of.ensures) ∙ sym (name-at names.text.now names.spans.now a.place (omega arith)) in
    puts_both c.put.ensures (puts_same e c.put_part.ensures)

pub returns-else-i-names : goal.returns-else-i-names
returns-else-i-names c =
    let a = c.args in
    puts_same (ap (λ (n : Bytes). space ∷ n) (sym (name-past a.names.text.now a.names.spans.now a.place (omega arith)))) c.put.ensures
