use mathlib.Core.Path.{refl, ◌∙◌}
use Rattle.verdict.specs.TablesLaws.{occupied-none, occupied-more, occupied-few}
use Rattle.verdict.specs.ColumnOffsets.{occupied-room}
use Rattle.verdict.specs.KindsTurns.{lists-start, lists-turn, lists-end}
use Rattle.std.proofs.Common.{arith, rules}
use Rattle.verdict.proofs.kinds.kinds_of.Goals as goal

pub loop-v-init : goal.loop-v-init
loop-v-init c =
    let s = c in (
      occupied-none _,
      refl,
      lists-start s.args.lists s.args.labels s.args.enter.now s.args.sizes.now _ (λ i h. search rules),
    )

pub list_kinds-requires : goal.list_kinds-requires
list_kinds-requires c =
    let s = c in
    let l = c.loop-v in
    let h = c.loop-v-test.true in (
      omega (arith, h, s.requires.0.few),
      s.requires.0.small l.v h,
      s.requires.1,
      omega (arith, h, s.requires.2),
      omega (arith, l.invariant.0, l.invariant.1, c.fill.auto.self, occupied-room s.args.sizes.now l.v s.args.lists h, s.requires.3),
    )

pub overflow_add-base : goal.overflow_add-base
overflow_add-base c =
    let s = c in
    let l = c.loop-v in
    let h = c.loop-v-test.true in
    omega (
      arith,
      l.invariant.0,
      s.requires.0.small l.v h,
      s.requires.0.few,
      h,
      occupied-few s.args.sizes.now s.args.lists 0 l.v (omega (arith, h)) s.requires.0,
    )

pub loop-v-preserved : goal.loop-v-preserved
loop-v-preserved c =
    let s = c in
    let l = c.loop-v in
    let f = c.list_kinds in
    let h = c.loop-v-test.true in (
      omega (arith, l.invariant.0, occupied-more s.args.sizes.now l.v),
      f.auto.kinds ∙ l.invariant.1,
      lists-turn s.args.lists s.args.labels l.v l.base s.args.enter.now s.args.sizes.now l.kinds
          f.new.kinds h l.invariant.0 f.ensures l.invariant.2,
    )

pub returns : goal.returns
returns c =
    let s = c in
    let l = c.loop-v in
    lists-end s.args.lists s.args.labels l.v s.args.enter.now s.args.sizes.now l.kinds
    (omega (arith, c.loop-v-test.false)) l.invariant.2
