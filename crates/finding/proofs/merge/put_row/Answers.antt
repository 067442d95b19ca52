use Rattle.std.specs.Prelude.{◌≡◌}
use mathlib.Core.Path.{refl}
use native.Mathlib.Omega.{arith}
use Rattle.finding.specs.MergeLaws.{row-ahead, row_more}
use Rattle.finding.proofs.merge.put_row.Goals as goal

pub loop-v-init : goal.loop-v-init
loop-v-init c = record { sized = refl; put = λ u h. absurd (omega arith); elsewhere = λ i h. refl }

pub overflow_cast-next : goal.overflow_cast-next
overflow_cast-next c = omega (arith, row-ahead c.loop-v.invariant c.requires.1, c.requires.0.next c.loop-v.v c.loop-v-test.true)

pub bounds-numbers-next : goal.bounds-numbers-next
bounds-numbers-next c = omega (arith, row-ahead c.loop-v.invariant c.requires.1, c.requires.0.next c.loop-v.v c.loop-v-test.true)

pub loop-v-preserved : goal.loop-v-preserved
loop-v-preserved c =
    let p = c.requires in
    row_more c.loop-v.invariant p.1 c.from.result c.from.ensures (omega (arith, p.0.room, p.0.state, p.0.few))

pub returns : goal.returns
returns c =
    let l = c.loop-v in
    let e : l.v ≡ c.args.lists = omega arith in
    rw e at l.invariant
