-- `put_row` meets its contract: its parts are put one after another.
use Rattle.std.proofs.Common.{ℕ, [], ◌∷◌, ap, ◌∙◌}
use Rattle.output.specs.Decimal.{decimal}
use Rattle.output.specs.Writer.{puts_both, puts_same}
use Rattle.printing.specs.Lines.{sign, row}
use Rattle.printing.proofs.rows.put_row.Goals as goal

pub returns : goal.returns
unfolding row
returns c =
    let signed = puts_same (ap (λ (b : ℕ). b ∷ []) (c.sign.ensures ∙ ap sign c.flag.ensures)) c.put-2.ensures in
    let told = puts_both c.put.ensures (puts_both signed c.put_nexts.ensures) in
    puts_both (puts_both (puts_same (ap decimal c.from.ensures) c.put_number.ensures) told) c.put-3.ensures
