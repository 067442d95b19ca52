use mathlib.Core.Bool.{false≢true}
use Rattle.finding.specs.LevelLaws.{flags-known}
use Rattle.finding.proofs.level.StateTable.find_levels.Goals as goal

pub loop-init : goal.loop-init
loop-init c =
    let a = c.args in
    (c.flag_levels.ensures.sized, flags-known a.self.now.table.now a.self.now.lists c.flag_levels.ensures)

pub returns-then-not-sweep : goal.returns-then-not-sweep
returns-then-not-sweep c =
    let a = c.args in
    let told = c.sweep.ensures in (
      told.sized,
      λ f. record {
        known = told.known a.self.now.flags.now c.loop.invariant.1;
        settled = told.settled c.if-not-sweep.true a.self.now.flags.now;
      },
    )

pub loop-preserved : goal.loop-preserved
loop-preserved c =
    let a = c.args in
    let told = c.sweep.ensures in
    (told.sized, told.known a.self.now.flags.now c.loop.invariant.1)

pub returns : goal.returns
returns c = (c.loop.invariant.0, λ f. absurd (false≢true f))
