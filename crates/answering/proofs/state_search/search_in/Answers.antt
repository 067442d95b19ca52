-- `search_in` meets its contract: the words are zero to begin with, and suffice, and the search goes by the next states that are put into
-- their rows.
use Rattle.std.specs.Prelude.{ℕ}
use Rattle.std.proofs.lemmas.List.{length-replicate}
use Rattle.answering.specs.StateSets.{filled_none}
use native.Mathlib.Omega.{arith}
use Rattle.answering.proofs.state_search.search_in.Goals as goal

pub put_rows-requires : goal.put_rows-requires
put_rows-requires g c =
    let a = c.args in
    let p = c.requires in
    (omega (arith, p.1, length-replicate {A = ℕ} g.row.ROOM 0), filled_none a.ranked.lists a.ranked.words _ g.row.ROOM)

pub returns : goal.returns
returns g c =
    record {
      sets = _;
      steps = c.put_rows.ensures;
      searched = rw c.requires.0 c.search_sets.ensures;
    }
