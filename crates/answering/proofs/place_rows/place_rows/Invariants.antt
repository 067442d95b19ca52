-- `place_rows` meets its contract. The loop's invariant: the places before p have their rows.
use Rattle.answering.specs.PlaceRows.{RowsFilled}
use Rattle.answering.proofs.place_rows.place_rows.Given as goal

abbrev pub invariant-loop-p : goal.invariant-loop-p
invariant-loop-p l = RowsFilled l.follow l.enter l.labels l.leads l.p l.rows
