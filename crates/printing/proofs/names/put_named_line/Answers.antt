-- `put_named_line` meets its contract: the word, the names and the line's end are put one after another.
use Rattle.output.specs.Writer.{puts_both}
use Rattle.printing.specs.Lines.{named_line}
use Rattle.printing.proofs.names.put_named_line.Goals as goal

pub returns : goal.returns
unfolding named_line
returns c = puts_both (puts_both c.put_part.ensures c.put_names.ensures) c.put.ensures
