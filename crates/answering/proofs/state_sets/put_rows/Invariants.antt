-- `put_rows` meets its contract. The loop's invariant: the rows of the states passed are filled.
use Rattle.std.specs.Prelude.{◌*◌}
use Rattle.answering.specs.StateSets.{RankedStep, Filled}
use Rattle.answering.proofs.state_sets.put_rows.Given as goal

abbrev pub invariant-loop-r : goal.invariant-loop-r
invariant-loop-r l = Filled l.ranked.lists l.ranked.words (RankedStep l.ranked.next.now l.ranked.states l.ranked.ranks.now l.ranked.kept.now l.ranked.count) (l.ranked.lists * l.r) l.sets
