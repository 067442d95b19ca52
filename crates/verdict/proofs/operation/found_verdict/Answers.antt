-- `found_verdict` meets its contract: the parts that it cuts are the rewriting's table and flags.
use mathlib.Core.Path.{sym}
use lib.Seq.{length-take-le}
use Rattle.verdict.specs.VerdictOperationLaws.{found-told}
use native.Mathlib.Omega.{arith}
use Rattle.verdict.proofs.operation.found_verdict.Goals as goal

pub slice_bounds-tables-end : goal.slice_bounds-tables-end
slice_bounds-tables-end c =
    sym (length-take-le _ c.args.table.now (omega arith))

pub slice_bounds-verdict_of-end : goal.slice_bounds-verdict_of-end
slice_bounds-verdict_of-end c =
    sym (length-take-le _ c.args.flags.now (omega arith))

pub returns : goal.returns
returns c = found-told c.args.job.held.fit (omega (arith, c.well_formed)) (omega (arith, c.well_formed)) c.requires.1 c.verdict_of.ensures
