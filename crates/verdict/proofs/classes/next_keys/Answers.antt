use mathlib.Core.Path.{refl, ◌∙◌}
use Rattle.verdict.specs.TablesLaws.{occupied-none, occupied-more, occupied-few}
use Rattle.verdict.specs.ColumnOffsets.{occupied-room}
use native.Mathlib.Omega.{arith}
use Rattle.verdict.proofs.classes.next_keys.Goals as goal

pub loop-v-init : goal.loop-v-init
loop-v-init c = (occupied-none _, refl)

pub list_keys-requires : goal.list_keys-requires
list_keys-requires c =
    let s = c in
    let l = c.loop-v in
    let h = c.loop-v-test.true in
    let room = occupied-room s.args.sizes.now l.v s.args.lists h in (
      omega (arith, h, s.requires.0.few),
      s.requires.0.small l.v h,
      omega (arith, h, s.requires.1),
      omega (arith, l.invariant.0, room, s.requires.3),
      omega (arith, l.invariant.0, l.invariant.1, room, s.requires.4),
      λ o p k m. s.requires.2 l.v o p h k m,
    )

pub overflow_add-base : goal.overflow_add-base
overflow_add-base c =
    let s = c in
    let l = c.loop-v in
    let h = c.loop-v-test.true in
    omega (
      arith,
      l.invariant.0,
      s.requires.0.small l.v h,
      s.requires.0.few,
      h,
      occupied-few s.args.sizes.now s.args.lists 0 l.v (omega (arith, h)) s.requires.0,
    )

pub loop-v-preserved : goal.loop-v-preserved
loop-v-preserved c =
    let l = c.loop-v in (
      omega (arith, l.invariant.0, occupied-more c.args.sizes.now l.v),
      c.list_keys.auto.keys ∙ l.invariant.1,
    )
