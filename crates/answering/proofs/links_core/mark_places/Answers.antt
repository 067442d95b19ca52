-- `mark_places` meets its contract by what the search and the marks promise together.
use Rattle.answering.specs.LinksCoreLaws.{places-marked}
use borrow.Author.Rules.{rules}
use Rattle.answering.proofs.links_core.mark_places.Goals as goal

pub returns : goal.returns
returns c =
    let a = c.args in
    λ g l.
    places-marked a.follow.now a.enter.now a.accepting a.links.symbols g (λ i. search rules)
    (λ i. search rules) l c.search_any.ensures c.mark-ones.ensures
    c.clear.ensures
