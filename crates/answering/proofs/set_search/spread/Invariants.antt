-- `spread` meets its contract. The loop's invariant: the rows have the next states of the pending states before the one that comes next.
use Rattle.answering.specs.Pairs.{Has}
use Rattle.answering.specs.SetSearch.{Steps}
use Rattle.answering.specs.SetSteps.{Spreads, states_left}
use Rattle.answering.proofs.set_search.spread.Given as goal

abbrev pub invariant-loop-next : goal.invariant-loop-next
invariant-loop-next l =
    Spreads l.sizes.words l.sizes.symbols (Steps l.sets l.sizes.symbols l.sizes.words) l.x l.sizes.states l.pending (Has l.sizes.words l.images) l.next

abbrev pub decreases-loop-next : goal.decreases-loop-next
decreases-loop-next l = states_left l.sizes.states l.next
