-- `line` meets its contract.
use Rattle.reading.specs.TellingLaws.{given-told-early, given-told-late}
use Rattle.reading.proofs.tables.Tables.line.Goals as goal

pub returns-then-p-clause-gives : goal.returns-then-p-clause-gives
returns-then-p-clause-gives c = given-told-late _ c.if-p.true c.late.ensures.gives

pub returns-else-p-clause-gives : goal.returns-else-p-clause-gives
returns-else-p-clause-gives c = given-told-early _ c.if-p.false c.early.ensures.gives
