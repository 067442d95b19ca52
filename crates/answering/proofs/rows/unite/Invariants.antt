-- `unite` meets its contract. The loop's invariant: the words passed are united, and no other word has changed.
use Rattle.answering.specs.SetRows.{word_of, United}
use Rattle.answering.proofs.rows.unite.Given as goal

abbrev pub invariant-loop-j : goal.invariant-loop-j
invariant-loop-j l = United l.base l.j (word_of l.sets l.from) l.initial.into l.into
