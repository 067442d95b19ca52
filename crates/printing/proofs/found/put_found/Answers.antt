-- `put_found` meets its contract: its lines are put one after another.
use Rattle.output.specs.Writer.{puts_both, puts_same}
use Rattle.printing.specs.Lines.{rewriting_lines}
use Rattle.printing.specs.ToldLaws.{few-rows}
use Rattle.printing.proofs.found.put_found.Goals as goal

pub returns-clause-puts : goal.returns-clause-puts
unfolding rewriting_lines
returns-clause-puts c = λ few small.
    let a = c.args in
    let rows = puts_same (few-rows a.names.text.now a.names.spans.now a.found.states a.table.now a.flags.now few small) c.put_rows.ensures in
    puts_both c.put_count.ensures (puts_both c.put_count-2.ensures (puts_both rows c.put_first.ensures))
