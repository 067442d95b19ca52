-- `follow_symbol` meets its contract: an image without states gets nothing, and to another come the ends that are joined.
use Rattle.answering.specs.EndSteps.{InRows}
use Rattle.answering.specs.EndStepsLaws.{given-joined, given-none}
use Rattle.answering.proofs.end_steps.follow_symbol.Goals as goal

pub returns-then-image-eq0 : goal.returns-then-image-eq0
returns-then-image-eq0 c =
    let a = c.args in
    given-none (InRows a.ends.now a.row a.set) a.image a.sets.now c.if-image-eq0.true

pub returns : goal.returns
returns c =
    let g = c.give_ends in
    let j = c.join_ends in
    let a = c.args in
    given-joined a.ends.now a.row a.set a.image 4 j.new.joined a.sets.now g.new.sets
    j.ensures g.ensures
