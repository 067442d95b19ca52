-- `verdict_in` meets its contract: the text is refused, or the tables hold its job.
use Rattle.std.specs.Prelude.{◌≡◌, Err}
use borrow.Author.Rules.{rules}
use native.Mathlib.Omega.{arith}
use Rattle.finding.specs.RowsHeld.{rows-held}
use Rattle.finding.specs.Operation.{read-few, holds-job}
use Rattle.verdict.specs.VerdictOperationLaws.{some-job, read-judged, read-refused}
use Rattle.verdict.proofs.operation.verdict_in.Goals as goal

pub invariant_of-rows : goal.invariant_of-rows
invariant_of-rows g c =
    let text = c.args.text.now in
    let e = c.in_ok-job.was in
    let r = c.load_rows.ensures.roomy.rows _ _ e in
    let (few-labels, few-lists) = read-few text c.load_rows.ensures.loaded e in
    record {
      held = rows-held few-labels few-lists
          (record {
            query_follow = omega (arith, r.1);
            query_enter = omega (arith, r.2);
            lists_follow = λ h. r.1;
            lists_enter = λ h. r.2;
          })
          (holds-job text c.load_rows.ensures.loaded e);
    }

pub job_verdict-requires : goal.job_verdict-requires
job_verdict-requires g c = (some-job c.args.text.now c.load_rows.ensures.loaded c.in_ok-job.was, c.requires.lent)

pub returns-in_err-job : goal.returns-in_err-job
returns-in_err-job g c =
    let a = c.args in
    let same : c.from_residual.result ≡ Err c.in_err-job.field-0.0 = search rules in
    rw same (read-refused a.text.now c.load_rows.ensures.loaded a.allowance a.table.now a.flags.now a.path.now a.workspace.now c.in_err-job.was)

pub returns : goal.returns
returns g c =
    let a = c.args in
    read-judged a.text.now c.load_rows.ensures.loaded a.allowance a.table.now a.flags.now a.path.now a.workspace.now c.in_ok-job.was
    c.job_verdict.ensures
