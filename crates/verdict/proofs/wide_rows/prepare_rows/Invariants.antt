-- The loop's invariant: the lists before v are prepared (Preparing).
use Rattle.std.specs.Prelude.{◌≡◌, length}
use Rattle.verdict.specs.Tables.{occupied}
use Rattle.verdict.specs.WideRowsPrepared.{Preparing}
use Rattle.verdict.proofs.wide_rows.prepare_rows.Given as goal

abbrev pub invariant-loop-v : goal.invariant-loop-v
invariant-loop-v l =
    (l.base ≡ occupied l.sizes 0 l.v) × (length l.rows ≡ length l.initial.rows) × Preparing l.v l.follow l.enter l.sizes l.accepting l.rows
