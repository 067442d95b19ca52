-- `search_states` meets its contract: the room suffices.
use Rattle.answering.specs.StateSets.{lent-most}
use native.Mathlib.Omega.{arith}
use Rattle.answering.proofs.state_search.search_states.Goals as goal

pub overflow_mul-ranked : goal.overflow_mul-ranked
overflow_mul-ranked c =
    let (m, n) = lent-most c.args.ranked.lent in omega arith

pub overflow_mul-ranked-2 : goal.overflow_mul-ranked-2
overflow_mul-ranked-2 c =
    let (m, n) = lent-most c.args.ranked.lent in omega arith

pub search_in-requires-else-ranked-le256 : goal.search_in-requires-else-ranked-le256
search_in-requires-else-ranked-le256 c = (c.requires, (lent-most c.args.ranked.lent).1, omega arith)
