-- `place_row` meets its contract. The loop's invariant: the labels before `a` have their words.
use Rattle.answering.specs.PlaceRows.{RowPlaced}
use Rattle.answering.proofs.place_rows.place_row.Given as goal

abbrev pub invariant-loop-a : goal.invariant-loop-a
invariant-loop-a l = RowPlaced l.leads l.after l.enter l.a l.from l.initial.rows l.rows
