use Rattle.std.proofs.Common.{◌≡◌, ap, arith}
use Rattle.output.specs.Writer.{puts_nothing, puts_both, puts_same}
use Rattle.printing.specs.Lines.{rows}
use Rattle.printing.specs.LinesLaws.{rows-more}
use Rattle.printing.proofs.rows.put_rows.Goals as goal

pub loop-state-init : goal.loop-state-init
unfolding rows
loop-state-init c = puts_nothing c.args.w.now

pub loop-state-preserved : goal.loop-state-preserved
loop-state-preserved c =
    let a = c.args in
    let l = c.loop-state in
    puts_same (rows-more a.table.now a.flags.now a.lists l.state) (puts_both l.invariant c.put_row.ensures)

pub returns : goal.returns
returns c =
    let a = c.args in
    let e : c.loop-state.state ≡ a.states = omega arith in
    puts_same (ap (λ n. rows a.table.now a.flags.now a.lists n 0) e) c.loop-state.invariant
