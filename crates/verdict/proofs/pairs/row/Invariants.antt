-- The loop's invariant: the labels that are left give what all labels give, the pairs found are indexed, and their sets stand in
-- the words in use.
use Rattle.verdict.specs.LentTables.{lent_of, layout_in}
use Rattle.verdict.specs.PairIndex.{Indexed, Short}
use Rattle.verdict.specs.PairRows.{RowLoop}
use Rattle.verdict.proofs.pairs.row.Given as goal

abbrev pub invariant-loop-a : goal.invariant-loop-a
invariant-loop-a l =
    let T = l.tables in
    RowLoop (lent_of T) (layout_in T l.ways) l.limit l.i l.n l.initial.workspace l.a l.m l.workspace
    × Indexed l.workspace l.m l.index.heads l.index.nexts × Short l.used l.workspace l.m
