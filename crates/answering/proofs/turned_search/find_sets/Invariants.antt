-- `find_sets` meets its contract. The loop's invariant: what is reached was found, and what is done was followed. Each round but the last does
-- more, for which there is room.
use Rattle.std.specs.Prelude.{true}
use Rattle.answering.specs.Pairs.{room}
use Rattle.answering.specs.TurnedRounds.{RoundsTaken}
use Rattle.answering.proofs.turned_search.find_sets.Given as goal

abbrev pub invariant-loop : goal.invariant-loop
invariant-loop l =
    RoundsTaken l.turned.rows.now l.turned.sizes.symbols l.turned.sizes.states l.turned.sizes.recordings l.turned.ends.now l.start l.sets l.done true

abbrev pub decreases-loop : goal.decreases-loop
decreases-loop l = room l.done
