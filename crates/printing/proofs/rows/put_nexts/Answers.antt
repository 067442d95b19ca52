use Rattle.std.proofs.Common.{◌≡◌, ap, ◌∙◌, arith}
use Rattle.output.specs.Decimal.{decimal}
use Rattle.output.specs.Writer.{puts_nothing, puts_both, puts_same}
use Rattle.printing.specs.Lines.{nexts}
use Rattle.printing.specs.LinesLaws.{nexts-more}
use Rattle.printing.proofs.rows.put_nexts.Goals as goal

pub loop-list-init : goal.loop-list-init
unfolding nexts
loop-list-init c = puts_nothing c.args.w.now

pub loop-list-preserved : goal.loop-list-preserved
loop-list-preserved c =
    let a = c.args in
    let l = c.loop-list in
    let number = puts_same (ap decimal (c.from.ensures ∙ c.next_state.ensures)) c.put_number.ensures in
    puts_same (nexts-more a.table.now a.state l.list) (puts_both l.invariant (puts_both c.put.ensures number))

pub returns : goal.returns
returns c =
    let a = c.args in
    let e : c.loop-list.list ≡ a.lists = omega arith in
    puts_same (ap (λ n. nexts a.table.now a.state n 0) e) c.loop-list.invariant
