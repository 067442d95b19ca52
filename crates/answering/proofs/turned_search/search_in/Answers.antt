-- `search_in` meets its contract: the words are zero to begin with, and suffice; the ends are those of the links, and the sets found by them
-- are turned back.
use Rattle.answering.specs.Ends.{fit-kept, zero-ends, ends-below}
use Rattle.answering.specs.TurnedSearch.{turned-blank, turned-all-found}
use native.Mathlib.Omega.{arith}
use Rattle.answering.proofs.turned_search.search_in.Goals as goal

pub fill_ends-requires : goal.fill_ends-requires
fill_ends-requires g c =
    let p = c.requires in
    let (fit, none) = zero-ends g.row.ROOM p.2 p.3 p.4 in
    (p.1, fit, none)

pub invariant_of-turned : goal.invariant_of-turned
invariant_of-turned g c =
    let p = c.requires in
    let (fit, none) = zero-ends g.row.ROOM p.2 p.3 p.4 in
    record { turnable = p.0; ends_fit = fit-kept c.fill_ends.auto.ends fit; ends_below = ends-below _ p.1 c.fill_ends.ensures }

pub find_sets-requires : goal.find_sets-requires
find_sets-requires g c =
    let p = c.requires in
    (turned-blank 64 (let l = p.0.few-states in omega arith), p.6.fits.begins)

pub returns : goal.returns
returns g c =
    let p = c.requires in
    let (fit, none) = zero-ends g.row.ROOM p.2 p.3 p.4 in
    turned-all-found p.1 (fit-kept c.fill_ends.auto.ends fit) c.fill_ends.ensures p.6
    c.find_sets.ensures c.turn_back.ensures c.turn_back.auto.reached
