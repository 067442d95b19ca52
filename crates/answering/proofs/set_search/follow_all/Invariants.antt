-- `follow_all` meets its contract. The loop's invariant: what is reached was found, and all links of what is reached and not pending were
-- followed. A turn takes a recording off the stack, and each recording that comes onto it has a pair that was not reached before.
use Rattle.std.specs.Prelude.{◌≡◌, ◌+◌, length}
use Rattle.answering.specs.Pairs.{room}
use Rattle.answering.specs.SetSearch.{Steps}
use Rattle.answering.specs.SetSearchRun.{SetGoing}
use Rattle.answering.proofs.set_search.follow_all.Given as goal

abbrev pub invariant-loop-top : goal.invariant-loop-top
invariant-loop-top l =
    (length l.reached ≡ length l.initial.reached) × (length l.images ≡ length l.initial.images) × (length l.pending ≡ length l.initial.pending) ×
    (length l.stack ≡ length l.initial.stack)
    × SetGoing l.sizes.words (Steps l.sets l.sizes.symbols l.sizes.words) l.sizes.symbols l.sizes.states l.table l.sizes.recordings l.start
    l.initial.reached l.reached l.pending l.stack l.top

abbrev pub decreases-loop-top : goal.decreases-loop-top
decreases-loop-top l =
    room l.reached + l.top
