-- `put_title` meets its contract: no part is put beyond the end.
use native.Mathlib.Omega.{arith}
use Rattle.output.specs.Writer.{puts_both}
use Rattle.output.specs.Within.{started_within}
use Rattle.cases.proofs.run.put_title.Goals as goal

pub returns : goal.returns
returns c =
    let opened = puts_both c.put_part.ensures (puts_both c.put_part-2.ensures c.put_part-3.ensures) in
    let all = puts_both opened (puts_both c.put_number.ensures c.put.ensures) in
    omega (arith, started_within c.new-w.ensures.starts all)
