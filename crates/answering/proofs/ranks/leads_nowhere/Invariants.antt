-- `leads_nowhere` meets its contract. The loop's invariant: over the lists before v the state is its own next state.
use Rattle.answering.specs.Ranks.{OwnNext}
use Rattle.answering.proofs.ranks.leads_nowhere.Given as goal

abbrev pub invariant-loop-v : goal.invariant-loop-v
invariant-loop-v l = OwnNext l.next l.v l.s
