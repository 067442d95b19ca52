use Rattle.answering.specs.SetSteps.{links_none, links-next, links-less, links-ended}
use Rattle.answering.proofs.set_search.follow_links.Goals as goal

pub loop-leaving-init : goal.loop-leaving-init
loop-leaving-init c = links_none c.requires.0 c.requires.2 c.leaving_at-leaving.ensures

pub loop-leaving-smaller : goal.loop-leaving-smaller
loop-leaving-smaller c = links-less c.loop-leaving.invariant c.in-Some.is c.next_leaving-leaving.ensures

pub loop-leaving-preserved : goal.loop-leaving-preserved
loop-leaving-preserved c = links-next c.loop-leaving.invariant c.in-Some.is c.next_leaving-leaving.ensures c.follow_link-top.ensures

pub returns : goal.returns
returns c = links-ended c.loop-leaving.invariant c.in_default.is
