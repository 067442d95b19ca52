-- `ended` meets its contract: the sources with the accepting places below `places` are joined.
use mathlib.Core.Path.{ap, ◌∙◌, subst}
use native.Mathlib.Omega.{arith}
use Rattle.theory.specs.Places.{Member}
use Rattle.theory.specs.PlacesShift.{member-cut}
use Rattle.places.specs.Joined.{joined}
use Rattle.finding.specs.MoveTable.{row_within}
use Rattle.finding.specs.ImagesTurned.{ended-joined}
use Rattle.finding.proofs.image.ended.Goals as goal

pub join-requires : goal.join-requires
join-requires c = λ p m.
    let a = c.args in
    let h = ((member-cut a.places p a.accepting).0 (subst (Member p) c.below.ensures m)).0 in
    omega (arith, c.requires.0, c.requires.1, row_within a.count p a.places h)

pub returns : goal.returns
returns c =
    let a = c.args in
    ended-joined a.count a.places a.accepting a.from.now a.to c.join.result (omega arith)
    (c.join.ensures ∙ ap (joined a.from.now a.to a.count) c.below.ensures)
