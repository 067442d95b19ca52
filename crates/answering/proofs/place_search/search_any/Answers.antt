-- `search_any` meets its contract: either search does.
use Rattle.answering.proofs.place_search.search_any.Goals as goal

pub returns-else-few_rows : goal.returns-else-few_rows
returns-else-few_rows c =
    let a = c.args in
    c.search_places.ensures a.accepting
