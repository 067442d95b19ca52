-- `put_refusal` meets its contract: the word, the number, the place and the line's end are put one after another.
use Rattle.std.proofs.Common.{ap}
use Rattle.output.specs.Decimal.{decimal}
use Rattle.output.specs.Writer.{puts_both, puts_same}
use Rattle.printing.specs.Lines.{refusal_line}
use Rattle.printing.proofs.lines.put_refusal.Goals as goal

pub returns : goal.returns
unfolding refusal_line
returns c =
    let number = puts_same (ap decimal c.number.ensures) c.put_number.ensures in
    puts_both (puts_both c.put_part.ensures (puts_both number c.put_place.ensures)) c.put.ensures
