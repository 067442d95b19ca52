-- `put_count` meets its contract: the word, the number and the line's end are put one after another.
use Rattle.output.specs.Writer.{puts_both}
use Rattle.printing.specs.Lines.{count_line}
use Rattle.printing.proofs.lines.put_count.Goals as goal

pub returns : goal.returns
unfolding count_line
returns c = puts_both (puts_both c.put_part.ensures c.put_number.ensures) c.put.ensures
