-- `put_case` meets its contract.
use Rattle.std.proofs.Common.{rules}
use Rattle.output.specs.Writer.{puts_started}
use Rattle.listed.proofs.texts.put_case.Goals as goal

pub returns : goal.returns
returns c = search (rules, puts_started c.new-w.ensures.starts c.put_text.ensures)
