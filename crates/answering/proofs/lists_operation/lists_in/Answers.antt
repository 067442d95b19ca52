-- `lists_in` meets its contract: the text is refused, or the tables hold its job.
use Rattle.std.specs.Prelude.{◌≡◌, Err}
use borrow.Author.Rules.{rules}
use Rattle.reading.specs.Loading.{tables}
use Rattle.finding.specs.Operation.{rows-loaded}
use Rattle.answering.specs.AnswerJob.{lists_job}
use Rattle.answering.specs.ListsOperation.{lists_left}
use Rattle.answering.specs.AnswerReading.{read-answered, read-refused}
use Rattle.answering.proofs.lists_operation.lists_in.Goals as goal

pub invariant_of-rows : goal.invariant_of-rows
invariant_of-rows g c =
    let l = c.load_rows in
    let T = tables l.new.names l.new.follow l.new.enter l.new.sizes l.new.accepting in
    record { held = rows-loaded c.args.text.now l.result T l.ensures.loaded l.ensures.roomy _ _ c.in_ok-job.was }

pub returns-in_err-job : goal.returns-in_err-job
returns-in_err-job g c =
    let a = c.args in
    let l = c.load_rows.new in
    let same : c.from_residual.result ≡ Err c.in_err-job.field-0.0 = search rules in
    rw same
    (read-refused a.text.now {T = tables l.names l.follow l.enter l.sizes l.accepting} c.load_rows.ensures.loaded
    (λ J. lists_left a.recordings a.marks.now a.workspace.now (lists_job J a.recordings a.table.now a.start))
    a.marks.now a.workspace.now c.in_err-job.was)

pub returns : goal.returns
returns g c =
    let a = c.args in
    let l = c.load_rows.new in
    read-answered a.text.now {T = tables l.names l.follow l.enter l.sizes l.accepting} c.load_rows.ensures.loaded
    (λ J. lists_left a.recordings a.marks.now a.workspace.now (lists_job J a.recordings a.table.now a.start))
    a.marks.now a.workspace.now c.in_ok-job.was c.job_lists.ensures
