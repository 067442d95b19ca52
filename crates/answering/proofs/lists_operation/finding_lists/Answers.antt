-- `finding_lists` meets its contract: Find gives a rewriting, whose marks are set, or refuses.
use Rattle.answering.specs.ListsOperationLaws.{finding-marked, finding-refused}
use Rattle.answering.proofs.lists_operation.finding_lists.Goals as goal

pub returns-in-Ok : goal.returns-in-Ok
returns-in-Ok c =
    λ F g. finding-marked g c.in-Ok.is (c.mark_lists.ensures c.requires)

pub returns-in-Err : goal.returns-in-Err
returns-in-Err c =
    λ F g. finding-refused g c.in-Err.is c.requires c.clear.ensures c.clear-in-Err.ensures
