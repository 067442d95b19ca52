-- `put_name` meets its contract: its length is put, and then its bytes.
use Rattle.output.specs.Writer.{puts_both}
use Rattle.keeping.proofs.names.put_name.Goals as goal

pub returns : goal.returns
returns c = puts_both c.put.ensures c.put_part.ensures
