-- `job_verdict` meets its contract: the path is cleared before the verdict and the workspace behind it, and the answer is told.
use Rattle.verdict.specs.VerdictOperationLaws.{job-left}
use native.Mathlib.Omega.{arith}
use Rattle.verdict.proofs.operation.job_verdict.Goals as goal

pub find_verdict-told-requires : goal.find_verdict-told-requires
find_verdict-told-requires c =
    let z = c.requires.1 in (
      c.requires.0,
      record { few = z.few; table-room = z.table-room; flags-room = z.flags-room; path_room = omega arith; room = z.room },
    )

pub returns : goal.returns
returns c =
    let z = c.requires.1 in
    let k = c.find_verdict-told.auto in
    λ J g.
    job-left g z (c.clear.ensures.enough z.path_room) c.find_verdict-told.ensures
    (omega (arith, k)) (omega (arith, k)) (omega (arith, k)) (c.clear-2.ensures.enough (omega (arith, k, z.room)))
    c.answer.ensures
