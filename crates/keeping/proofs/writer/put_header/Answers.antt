-- `put_header` meets its contract: its four pieces are put one after another.
use Rattle.output.specs.Writer.{puts_both}
use Rattle.keeping.proofs.writer.put_header.Goals as goal

pub returns : goal.returns
returns c = puts_both c.put_part.ensures (puts_both c.put16.ensures (puts_both c.put.ensures c.put16-2.ensures))
