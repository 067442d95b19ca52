-- `put_rows` meets its contract. The loop's invariant: the rows before this one are put.
use Rattle.output.specs.Writer.{Puts}
use Rattle.printing.specs.Lines.{rows}
use Rattle.printing.proofs.rows.put_rows.Given as goal

abbrev pub invariant-loop-state : goal.invariant-loop-state
invariant-loop-state l = Puts l.initial.w (rows l.table l.flags l.lists l.state 0) l.w
