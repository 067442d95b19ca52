-- `answer` meets its contract, in each of the two cases.
use Rattle.verdict.specs.VerdictOperationLaws.{answered-told, answered-refused}
use Rattle.verdict.proofs.operation.answer.Goals as goal

pub returns-in-Ok : goal.returns-in-Ok
returns-in-Ok c = answered-told c.in-Ok.is

pub returns-in-Err : goal.returns-in-Err
returns-in-Err c = rw c.from.ensures (answered-refused c.in-Err.is c.clear.ensures.enough c.clear-in-Err.ensures.enough)
