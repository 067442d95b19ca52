use mathlib.Core.Path.{refl, ◌∙◌}
use Rattle.verdict.specs.TablesLaws.{occupied-none, occupied-more, occupied-few}
use Rattle.verdict.specs.ColumnOffsets.{occupied-room}
use native.Mathlib.Omega.{arith}
use Rattle.verdict.proofs.classes.depths.Goals as goal

pub loop-v-init : goal.loop-v-init
loop-v-init c = (occupied-none _, refl)

pub list_depths-requires : goal.list_depths-requires
list_depths-requires c =
    let s = c in
    let l = c.loop-v in
    let h = c.loop-v-test.true in (
      omega (arith, h, s.requires.0.few),
      omega (arith, h, s.requires.1),
      omega (arith, l.invariant.0, l.invariant.1, occupied-room s.args.sizes.now l.v s.args.lists h, s.requires.2),
    )

pub overflow_add-base-in-loop-v : goal.overflow_add-base-in-loop-v
overflow_add-base-in-loop-v c =
    let s = c in
    let l = c.loop-v in
    let h = c.loop-v-test.true in
    omega (
      arith,
      l.invariant.0,
      s.requires.0.small l.v h,
      s.requires.0.few,
      h,
      occupied-few s.args.sizes.now s.args.lists 0 l.v (omega (arith, h)) s.requires.0,
    )

pub loop-v-preserved : goal.loop-v-preserved
loop-v-preserved c =
    let l = c.loop-v in (
      omega (arith, l.invariant.0, occupied-more c.args.sizes.now l.v),
      c.list_depths.auto.keys ∙ l.invariant.1,
    )
