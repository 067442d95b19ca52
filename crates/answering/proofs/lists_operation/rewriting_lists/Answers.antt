-- `rewriting_lists` meets its contract: Find runs on zeroed memory, and what it tells and leaves there gives the marks.
use Rattle.finding.specs.Find.{find}
use Rattle.answering.specs.FoundTables.{found-given}
use Rattle.answering.proofs.lists_operation.rewriting_lists.Goals as goal

pub returns : goal.returns
returns c =
    let a = c.args in
    λ J w g.
    c.finding_lists.ensures (find J)
    (rw c.requires.1 (found-given J w g a.rows.held.few-lists c.find_rows-told.ensures (rw c.requires.1 at c.requires.2)))
