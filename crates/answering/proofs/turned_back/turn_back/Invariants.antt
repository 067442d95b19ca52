-- `turn_back` meets its contract. The loop's invariant: the words before i have been turned.
use Rattle.answering.specs.TurnedBack.{TurnedBelow}
use Rattle.answering.proofs.turned_back.turn_back.Given as goal

abbrev pub invariant-loop-i : goal.invariant-loop-i
invariant-loop-i l = TurnedBelow l.i l.fn.sizes.recordings l.sets l.initial.reached l.reached
