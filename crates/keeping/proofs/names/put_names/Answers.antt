use Rattle.std.proofs.Common.{List, ap}
use lib.Seq.{take_all}
use Rattle.syntax.specs.declared.table.Span.{Span}
use Rattle.syntax.specs.Resolve.{names_at}
use Rattle.output.specs.Writer.{puts_nothing, puts_both, puts_same}
use Rattle.keeping.specs.Write.{one_name, name_bytes}
use Rattle.keeping.specs.KeptLaws.{names-more}
use Rattle.keeping.proofs.names.put_names.Goals as goal

pub loop-span-init : goal.loop-span-init
unfolding name_bytes names_at
loop-span-init c = puts_nothing c.args.w.now

pub loop-span-preserved : goal.loop-span-preserved
loop-span-preserved c =
    let names = c.args.names in
    let l = c.loop-span in
    puts_same (names-more names.text.now names.spans.now l.span-index (record { start = 0; size = 0 }) c.loop-span-test.true)
    (puts_both l.invariant (puts_same (ap one_name c.of.ensures) c.put_name.ensures))

pub returns : goal.returns
returns c =
    let names = c.args.names in
    puts_same (ap (λ (l : List Span). name_bytes (names_at names.text.now l)) (take_all c.loop-span.span-index names.spans.now c.loop-span-test.false))
    c.loop-span.invariant
