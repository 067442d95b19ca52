-- `put` meets its contract: a store beyond the end changes nothing.
use mathlib.Core.Path.{sym}
use lib.Seq.{set_out}
use Rattle.syntax.proofs.sets.put.Goals as goal

pub returns-else-i-table : goal.returns-else-i-table
returns-else-i-table c = sym (set_out _ _ _ c.if-i-table.false)
