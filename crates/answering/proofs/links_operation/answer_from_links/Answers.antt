-- `answer_from_links` meets its contract: the number of recordings and the lent buffers are checked before the text is read, into tables of
-- six rows or of 17.
use Rattle.answering.specs.LinksOperation.{links_answer}
use Rattle.answering.specs.AnswerChecks.{none-refused, many-refused, marks-short, workspace-short, all-lent}
use native.Mathlib.Omega.{arith}
use Rattle.answering.proofs.links_operation.answer_from_links.Goals as goal

pub returns-then-recordings-eq0 : goal.returns-then-recordings-eq0
unfolding links_answer
returns-then-recordings-eq0 c =
    let a = c.args in
    rw c.from.ensures (none-refused a.recordings a.recordings a.marks.now a.workspace.now _ c.if-recordings-eq0.true)

pub returns-then-recordings-gt4096 : goal.returns-then-recordings-gt4096
unfolding links_answer
returns-then-recordings-gt4096 c =
    let a = c.args in
    rw c.from-then-recordings-gt4096.ensures
    (many-refused a.recordings a.recordings a.marks.now a.workspace.now _ (omega arith) (omega arith))

pub returns-then-marks-recordings : goal.returns-then-marks-recordings
unfolding links_answer
returns-then-marks-recordings c =
    let a = c.args in
    rw c.from-then-marks-recordings.ensures
    (marks-short a.recordings a.recordings a.marks.now a.workspace.now _ (omega arith) (omega arith) (omega arith))

pub returns-then-workspace-recordings : goal.returns-then-workspace-recordings
unfolding links_answer
returns-then-workspace-recordings c =
    let a = c.args in
    rw c.from-then-workspace-recordings.ensures
    (workspace-short a.recordings a.recordings a.marks.now a.workspace.now _ (omega arith) (omega arith) (omega arith) (omega arith))

pub returns-then-lists_at_most-le4 : goal.returns-then-lists_at_most-le4
unfolding links_answer
returns-then-lists_at_most-le4 c =
    let a = c.args in
    all-lent a.recordings a.recordings a.marks.now a.workspace.now _ (omega arith) (omega arith) (omega arith) (omega arith) c.links_in.ensures

pub returns-else-lists_at_most-le4 : goal.returns-else-lists_at_most-le4
unfolding links_answer
returns-else-lists_at_most-le4 c =
    let a = c.args in
    all-lent a.recordings a.recordings a.marks.now a.workspace.now _ (omega arith) (omega arith) (omega arith) (omega arith)
    c.links_in-else-lists_at_most-le4.ensures
