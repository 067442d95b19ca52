-- The loop's invariant: the entries that are left give what all entries give, the pairs found are indexed, and their
-- sets stand in the words in use.
use Rattle.std.specs.Prelude.{◌≡◌, ◌-◌, length}
use Rattle.verdict.specs.LentTables.{lent_of, layout_in}
use Rattle.verdict.specs.PairIndex.{Indexed, Short}
use Rattle.verdict.specs.PairRows.{SweepLoop}
use Rattle.verdict.proofs.pairs.sweep.Given as goal

abbrev pub invariant-loop-i : goal.invariant-loop-i
invariant-loop-i l =
    let T = l.tables in
    SweepLoop (lent_of T) (layout_in T l.ways) l.limit l.initial.workspace l.i l.n l.workspace × Indexed l.workspace l.n l.index.heads l.index.nexts
    × Short l.used l.workspace l.n × (length l.laid ≡ length l.initial.laid)

abbrev pub decreases-loop-i : goal.decreases-loop-i
decreases-loop-i l =
    l.limit - l.i
