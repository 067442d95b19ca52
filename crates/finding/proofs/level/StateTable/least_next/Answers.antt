use Rattle.std.specs.Prelude.{◌≡◌}
use mathlib.Core.Path.{subst}
use Rattle.finding.specs.LevelTold.{LeastNext}
use Rattle.finding.specs.TableLent.{row-lent}
use Rattle.finding.specs.LevelLaws.{least-none, least_more}
use native.Mathlib.Omega.{arith}
use Rattle.finding.proofs.level.StateTable.least_next.Goals as goal

pub loop-v-init : goal.loop-v-init
loop-v-init c = let a = c.args in least-none a.self.now.table.now a.s a.levels.now

pub overflow_cast-next : goal.overflow_cast-next
overflow_cast-next c = omega (arith, (row-lent c.args.self.now.lent.rows c.args.s c.requires).next c.loop-v.v c.loop-v-test.true)

pub offset_bounds-levels-next : goal.offset_bounds-levels-next
offset_bounds-levels-next c =
    omega (arith, (row-lent c.args.self.now.lent.rows c.args.s c.requires).next c.loop-v.v c.loop-v-test.true)

pub bounds-levels-next : goal.bounds-levels-next
bounds-levels-next c =
    omega (arith, (row-lent c.args.self.now.lent.rows c.args.s c.requires).next c.loop-v.v c.loop-v-test.true)

pub loop-v-preserved : goal.loop-v-preserved
loop-v-preserved c = least_more c.loop-v.invariant c.min-least.ensures

pub returns : goal.returns
returns c =
    let a = c.args in
    let all : c.loop-v.v ≡ a.self.now.lists = omega arith in
    subst (λ n. LeastNext a.self.now.table.now n a.s a.levels.now c.loop-v.least) all c.loop-v.invariant
