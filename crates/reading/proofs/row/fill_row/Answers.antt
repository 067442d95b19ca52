-- `fill_row` meets its contract: the automaton is built over cleared enter sets.
use Rattle.std.proofs.Common.{◌≡◌, length, replicate, arith}
use Rattle.std.proofs.lemmas.Grind.{common_steps}
use Rattle.reading.specs.FillingLaws.{row-built}
use Rattle.reading.proofs.row.fill_row.Goals as goal

pub returns : goal.returns
returns c =
    let a = c.args in
    let cleared : c.fill.new.self ≡ replicate (length a.enter.now) 0 = grind (arith, common_steps) in
    row-built _ a.s.now a.follow.now a.enter.now c.build.result _ _ c.requires (rw cleared at c.build.ensures)
