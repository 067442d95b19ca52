-- The loop's invariant: the rows of the lists passed are in their places, and nothing is pending.
use Rattle.std.specs.Prelude.{◌≡◌, length, replicate}
use Rattle.finding.specs.LentTables.{lent_tables}
use Rattle.finding.specs.ListRows.{ListsDone}
use Rattle.finding.proofs.list_images.rows_of.Given as goal

abbrev pub invariant-loop-v : goal.invariant-loop-v
invariant-loop-v l =
    (length l.sources ≡ length l.initial.sources) × (length l.rows ≡ length l.initial.rows)
    × ListsDone (lent_tables l.job) l.v l.rows × (l.pending.at ≡ replicate 64 0)
