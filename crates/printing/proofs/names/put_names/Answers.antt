use Rattle.std.proofs.Common.{ap, arith}
use lib.Seq.{take_all}
use Rattle.syntax.specs.Resolve.{names_at}
use Rattle.output.specs.Writer.{puts_nothing, puts_both, puts_same}
use Rattle.printing.specs.Lines.{spelled}
use Rattle.printing.specs.LinesLaws.{spelled-more}
use Rattle.printing.proofs.names.put_names.Goals as goal

pub loop-place-init : goal.loop-place-init
unfolding spelled
loop-place-init c = puts_nothing c.args.w.now

pub loop-place-preserved : goal.loop-place-preserved
loop-place-preserved c =
    let a = c.args in
    let l = c.loop-place in
    puts_same (spelled-more (names_at a.names.text.now a.names.spans.now) a.places.now l.place-index (omega arith)) (puts_both l.invariant c.put_name.ensures)

pub returns : goal.returns
returns c =
    let a = c.args in
    puts_same (ap (spelled (names_at a.names.text.now a.names.spans.now)) (take_all c.loop-place.place-index a.places.now (omega arith))) c.loop-place.invariant
