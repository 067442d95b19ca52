-- The loop's invariant: the rows of the states before q are laid, and the next begins at w × q.
use Rattle.std.specs.Prelude.{◌≡◌, ◌*◌, length}
use Rattle.places.specs.Words.{number_of}
use Rattle.verdict.specs.WideRows.{RowsLaid}
use Rattle.verdict.proofs.wide_rows.lay_rows.Given as goal

abbrev pub invariant-loop-q : goal.invariant-loop-q
invariant-loop-q l =
    (l.from ≡ l.w * l.q) × (length l.laid ≡ length l.initial.laid) × RowsLaid l.w l.q l.rows (number_of l.words) l.laid
