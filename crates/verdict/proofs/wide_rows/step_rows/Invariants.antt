-- The loop's invariant: the rows of the states before q are stepped (RowsWalked).
use Rattle.std.specs.Prelude.{◌≡◌, ◌*◌, length}
use Rattle.verdict.specs.WideRowsTurns.{RowsWalked}
use Rattle.verdict.proofs.wide_rows.step_rows.Given as goal

abbrev pub invariant-loop-q : goal.invariant-loop-q
invariant-loop-q l =
    (l.from ≡ l.w * l.q) × (length l.words ≡ 16) × RowsWalked l.w l.lists l.a l.rows l.ended l.laid l.words l.alone l.q
