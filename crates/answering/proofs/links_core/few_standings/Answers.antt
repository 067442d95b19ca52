-- `few_standings` meets its contract: there are few places; or what the exploration tells.
use Rattle.answering.specs.FewPlaces.{few-places, told}
use Rattle.answering.proofs.links_core.few_standings.Goals as goal

pub returns-then-few_places : goal.returns-then-few_places
returns-then-few_places c =
    λ h l. few-places (c.few_places.ensures c.if-few_places.true)

pub returns : goal.returns
returns c = λ h l. rw c.is_some.ensures (told _ _ _ c.count_standings.ensures h l)
