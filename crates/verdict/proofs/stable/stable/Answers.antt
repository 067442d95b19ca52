use Rattle.std.specs.Prelude.{◌≡◌, ℕ, ◌+◌, ◌-◌, ◌^◌}
use mathlib.Core.Path.{refl, ap, ◌∙◌, subst}
use lib.Pow.{pow_pos}
use borrow.Author.Tests.{eqb-true}
use Rattle.verdict.specs.TablesLaws.{occupied-none, occupied-more, occupied-few}
use Rattle.verdict.specs.ColumnOffsets.{occupied-room}
use Rattle.verdict.specs.WordBits.{one_bit}
use Rattle.verdict.specs.StableTurns.{ListsLike, lists-start, lists-turn}
use native.Mathlib.Omega.{arith}
use Rattle.verdict.proofs.stable.stable.Goals as goal

pub loop-v-init : goal.loop-v-init
loop-v-init c = (occupied-none _, refl, refl, lists-start _ _ _ _ _ _)

pub list_stable-now-requires : goal.list_stable-now-requires
list_stable-now-requires c =
    let s = c in
    let l = c.loop-v in
    let h = c.loop-v-test.true in
    let room = occupied-room s.args.sizes.now l.v s.args.lists h in (
      omega (arith, h, s.requires.0.few),
      s.requires.0.small l.v h,
      omega (arith, h, s.requires.1),
      omega (arith, l.invariant.0, room, s.requires.3),
      omega (arith, l.invariant.0, room, s.requires.4),
      λ o p k m. s.requires.2 l.v o p h k m,
      λ p a b. omega (arith, s.requires.5.few, (s.requires.5.inside (l.base + p) (omega arith) (omega (arith, l.invariant.0, room))).1),
      omega (arith, l.invariant.1, s.requires.6),
      omega (arith, l.invariant.2, s.requires.7),
    )

pub overflow_add-base : goal.overflow_add-base
overflow_add-base c =
    let s = c in
    let l = c.loop-v in
    let h = c.loop-v-test.true in
    omega (
      arith,
      l.invariant.0,
      s.requires.0.small l.v h,
      s.requires.0.few,
      h,
      occupied-few s.args.sizes.now s.args.lists 0 l.v (omega (arith, h)) s.requires.0,
    )

pub loop-v-preserved : goal.loop-v-preserved
loop-v-preserved c =
    let s = c in
    let l = c.loop-v in
    let f = c.list_stable-now in
    let like = c.in-Some.ensures in (
      omega (arith, l.invariant.0, occupied-more s.args.sizes.now l.v),
      f.auto.merged ∙ l.invariant.1,
      like.size ∙ l.invariant.2,
      lists-turn l.v l.base s.args.sizes.now s.args.before.now s.args.kinds.now s.args.classes.now l.known
          l.merged l.entering c.in-Some.more f.new.merged f.new.entering l.invariant.0 like l.invariant.3,
    )

pub overflow_sub-result : goal.overflow_sub-result
overflow_sub-result c =
    let s = c in
    omega (arith, one_bit s.args.k (omega (arith, s.requires.5.few)), pow_pos s.args.k)

pub returns : goal.returns
returns c =
    let s = c in
    let l = c.loop-v in
    let d : l.v ≡ s.args.lists = omega (arith, c.loop-v-test.false) in
    λ e. subst
    (λ (z : ℕ). ListsLike z s.args.sizes.now s.args.before.now s.args.kinds.now s.args.classes.now (2 ^ s.args.k - 1)
    l.merged l.entering) d
    (subst
    (λ (z : ℕ). ListsLike l.v s.args.sizes.now s.args.before.now s.args.kinds.now s.args.classes.now z l.merged
    l.entering)
    (eqb-true _ _ e ∙ ap (λ (z : ℕ). z - 1) (one_bit s.args.k (omega (arith, s.requires.5.few)))) l.invariant.3)
