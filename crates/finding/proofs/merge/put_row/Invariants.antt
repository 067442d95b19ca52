-- The loop's invariant: the entries for the lists below v are put.
use Rattle.finding.specs.MergeTold.{RowPut}
use Rattle.finding.proofs.merge.put_row.Given as goal

abbrev pub invariant-loop-v : goal.invariant-loop-v
invariant-loop-v l = RowPut l.initial.table l.v l.numbers l.s l.k l.table
