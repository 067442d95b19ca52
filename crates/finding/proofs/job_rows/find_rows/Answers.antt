-- What is explored is merged; a refusal stays.
use Rattle.std.specs.Prelude.{◌≡◌, Err}
use borrow.Author.Rules.{rules}
use Rattle.finding.specs.MergedCore.{found-lent, core-refused, core-merged}
use Rattle.finding.specs.RowsHeld.{rows-job, rows-room}
use Rattle.finding.proofs.job_rows.find_rows.Goals as goal

pub merge-states-requires : goal.merge-states-requires
merge-states-requires c =
    let job = c.args.job in
    found-lent (rows-room job.held c.requires) c.explore_rows.ensures (rows-job job.held) _ c.in_ok-found.was

pub returns-in_err-found : goal.returns-in_err-found
returns-in_err-found c =
    let same : c.from_residual.result ≡ Err c.in_err-found.field-0.0 = search rules in
    rw same (core-refused (rows-room c.args.job.held c.requires) c.explore_rows.ensures _ c.in_err-found.was)

pub returns : goal.returns
returns c = core-merged (rows-room c.args.job.held c.requires) c.explore_rows.ensures _ c.in_ok-found.was c.merge-states.ensures
