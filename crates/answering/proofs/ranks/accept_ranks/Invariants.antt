-- `accept_ranks` meets its contract. The loop's invariant: the words have the ranks below r of states with flag 1.
use Rattle.answering.specs.Ranks.{AcceptedRanks}
use Rattle.answering.proofs.ranks.accept_ranks.Given as goal

abbrev pub invariant-loop-r : goal.invariant-loop-r
invariant-loop-r l = AcceptedRanks l.flags l.kept l.r l.accepts
