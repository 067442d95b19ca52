-- What the view of the links says, by its place.
use Rattle.std.specs.Prelude.{ℕ, List, Option}
use Rattle.std.specs.Borrow.{Bor}
use Rattle.answering.specs.LinkAt.{link_at, place_after}
use Rattle.answering.specs.declared.links.Link.{Link}
use Rattle.answering.specs.declared.link_view.LinkView.{LinkView}

-- The view of the triples at a place.
abbrev pub view_at : Bor (List ℕ) → ℕ → LinkView
view_at t i = record { table = t; at = i }

-- The link at the view's place, where it leaves x.
abbrev pub current : LinkView → ℕ → Option Link
current v x = link_at v.table.now v.at x

-- The same triples at the place after.
abbrev pub moved : LinkView → LinkView
moved v = record { table = v.table; at = place_after v.table.now v.at }
