-- `mark_links` meets its contract: there are so many standings, and the marks by places are theirs; or there are too many.
use Rattle.answering.specs.LinksCoreLaws.{links-marked, links-over}
use Rattle.answering.proofs.links_core.mark_links.Goals as goal

pub returns-then-few_standings : goal.returns-then-few_standings
returns-then-few_standings c =
    let a = c.args in
    λ g l.
    links-marked a.follow.now a.enter.now a.accepting a.links.symbols g
    ((c.few_standings.ensures g.few-labels g.enters).few c.if-few_standings.true a.accepting)
    (c.mark_places.ensures g l)

pub returns : goal.returns
returns c =
    let a = c.args in
    λ g l.
    links-over a.follow.now a.enter.now a.accepting a.links.symbols g
    ((c.few_standings.ensures g.few-labels g.enters).many c.if-few_standings.false a.accepting)
    l c.clear.ensures c.clear-2.ensures
