-- `follow_word_links` meets its contract. The loop's invariant: the links of x before the one that was read were followed.
use Rattle.answering.specs.SetSteps.{LinksGoing, links_left}
use Rattle.answering.specs.WordSteps.{WordImage}
use Rattle.answering.specs.WordsPending.{pending_of}
use Rattle.answering.proofs.word_search.follow_word_links.Given as goal

abbrev pub invariant-loop-leaving : goal.invariant-loop-leaving
invariant-loop-leaving l =
    LinksGoing 1 l.sizes.recordings l.sizes.symbols l.links.table.now l.x (WordImage l.images l.next) l.leaving
    l.initial.reached (pending_of l.initial.reached l.done) l.height l.reached (pending_of l.reached l.done) l.stack l.top

abbrev pub decreases-loop-leaving : goal.decreases-loop-leaving
decreases-loop-leaving l = links_left l.links.table.now l.leaving
