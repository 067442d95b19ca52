use Rattle.answering.specs.FewPlaces.{few-told}
use native.Mathlib.Omega.{arith}
use Rattle.answering.proofs.place_rows.few_places.Goals as goal

pub returns-then-count-le6 : goal.returns-then-count-le6
returns-then-count-le6 c e = few-told (omega arith) (c.sets_within.ensures e)
