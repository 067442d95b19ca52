use Rattle.std.specs.Prelude.{◌≡◌}
use Rattle.answering.specs.SetRows.{united-none, united-more}
use native.Mathlib.Omega.{arith}
use Rattle.answering.proofs.rows.unite.Goals as goal

pub loop-j-init : goal.loop-j-init
loop-j-init c = united-none _ _ _

pub loop-j-preserved : goal.loop-j-preserved
loop-j-preserved c = united-more c.loop-j.invariant (omega arith)

pub returns : goal.returns
returns c =
    let e : c.loop-j.j ≡ c.args.count = omega arith in
    rw e at c.loop-j.invariant
