-- `follow_links` meets its contract. The loop's invariant: the links of x before the one that was read were followed.
use Rattle.answering.specs.Pairs.{Has}
use Rattle.answering.specs.SetSteps.{LinksGoing, links_left}
use Rattle.answering.proofs.set_search.follow_links.Given as goal

abbrev pub invariant-loop-leaving : goal.invariant-loop-leaving
invariant-loop-leaving l =
    LinksGoing l.sizes.words l.sizes.recordings l.sizes.symbols l.links.table.now l.x (Has l.sizes.words l.images) l.leaving
    l.initial.reached l.initial.pending l.height l.reached l.pending l.stack l.top

abbrev pub decreases-loop-leaving : goal.decreases-loop-leaving
decreases-loop-leaving l = links_left l.links.table.now l.leaving
