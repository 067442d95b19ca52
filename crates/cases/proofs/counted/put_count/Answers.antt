-- `put_count` meets its contract: no part is put beyond the end.
use native.Mathlib.Omega.{arith}
use Rattle.output.specs.Writer.{puts_both}
use Rattle.output.specs.Within.{started_within}
use Rattle.cases.proofs.counted.put_count.Goals as goal

pub returns : goal.returns
returns c =
    let all = puts_both c.put_part.ensures (puts_both c.put_number.ensures c.put_part-2.ensures) in
    omega (arith, started_within c.new-w.ensures.starts all)
