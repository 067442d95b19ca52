-- `fill_ends` meets its contract. The loop's invariant: the rows have the ends of the links before the one that comes next.
use Rattle.answering.specs.Ends.{EndsTo}
use Rattle.answering.proofs.ends.fill_ends.Given as goal

abbrev pub invariant-loop-at : goal.invariant-loop-at
invariant-loop-at l = EndsTo l.table l.sizes.symbols l.sizes.recordings l.at l.ends
