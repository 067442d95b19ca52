-- `take_words` meets its contract. The loop's invariant: the words before i are taken.
use Rattle.answering.specs.TurnedRounds.{WordsTaken}
use Rattle.answering.proofs.turned_search.take_words.Given as goal

abbrev pub invariant-loop-i : goal.invariant-loop-i
invariant-loop-i l =
    WordsTaken l.turned.rows.now l.turned.sizes.symbols l.turned.sizes.states l.turned.sizes.recordings l.turned.ends.now l.i l.initial.sets l.initial.done l.sets l.done l.more
