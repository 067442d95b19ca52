-- `place_after` meets its contract: the test says which case holds.
use mathlib.Core.Path.{sym}
use Rattle.answering.specs.LinkAt.{place-next, place_end}
use Rattle.answering.proofs.links.place_after.Goals as goal

pub returns-then-at-table : goal.returns-then-at-table
returns-then-at-table c = let a = c.args in sym (place-next a.table.now a.at c.if-at-table.true)

pub returns-else-at-table : goal.returns-else-at-table
returns-else-at-table c = let a = c.args in sym (place_end a.table.now a.at c.if-at-table.false)
