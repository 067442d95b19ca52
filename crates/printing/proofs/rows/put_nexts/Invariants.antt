-- `put_nexts` meets its contract. The loop's invariant: the next states for the lists before this one are put.
use Rattle.output.specs.Writer.{Puts}
use Rattle.printing.specs.Lines.{nexts}
use Rattle.printing.proofs.rows.put_nexts.Given as goal

abbrev pub invariant-loop-list : goal.invariant-loop-list
invariant-loop-list l = Puts l.initial.w (nexts l.table l.state l.list 0) l.w
