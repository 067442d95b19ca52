use Rattle.answering.specs.PlaceRows.{lead-self, lead-told}
use native.Mathlib.Omega.{arith}
use Rattle.answering.proofs.place_rows.alike_place.Goals as goal

pub returns-then-accepting-q : goal.returns-then-accepting-q
returns-then-accepting-q c = lead-told (omega arith) c.if-follow-q.true c.if-accepting-q.true

pub returns : goal.returns
returns c = lead-self _ _ _
