-- `rank_states` meets its contract. The loop's invariant: the states below s have their ranks.
use Rattle.answering.specs.Ranks.{Ranks}
use Rattle.answering.proofs.ranks.rank_states.Given as goal

abbrev pub invariant-loop-s : goal.invariant-loop-s
invariant-loop-s l = Ranks l.next l.lists l.s l.flags l.ranks l.kept l.count
