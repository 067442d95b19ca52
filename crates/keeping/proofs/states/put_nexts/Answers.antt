use Rattle.std.proofs.Common.{◌≡◌, ap, ◌∙◌, arith}
use Rattle.output.specs.Writer.{puts_nothing, puts_both, puts_same}
use Rattle.keeping.specs.Kept.{two_bytes, kept_nexts}
use Rattle.keeping.specs.KeptLaws.{nexts-more}
use Rattle.keeping.proofs.states.put_nexts.Goals as goal

pub loop-list-init : goal.loop-list-init
unfolding kept_nexts
loop-list-init c = puts_nothing c.args.w.now

pub loop-list-preserved : goal.loop-list-preserved
loop-list-preserved c =
    let a = c.args in
    let l = c.loop-list in
    puts_same (nexts-more a.table.now a.state l.list) (puts_both l.invariant (puts_same (ap two_bytes c.next_state.ensures) c.put16.ensures))

pub returns : goal.returns
returns c =
    let a = c.args in
    let e : c.loop-list.list ≡ a.lists = omega arith in
    puts_same (ap (λ n. kept_nexts a.table.now a.state n 0) e) c.loop-list.invariant
