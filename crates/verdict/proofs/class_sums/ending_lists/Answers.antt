use Rattle.std.specs.Prelude.{◌≡◌, ◌+◌, ◌/◌, ◌≤◌, get_or}
use mathlib.Core.Path.{refl, subst}
use Rattle.theory.specs.Places.{Member}
use Rattle.theory.specs.PlacesShift.{member-cut}
use Rattle.verdict.specs.Tables.{occupied}
use Rattle.verdict.specs.TablesLaws.{occupied-more, occupied-few}
use Rattle.verdict.specs.ColumnOffsets.{occupied-room}
use Rattle.verdict.specs.Classes.{EndingLists}
use Rattle.verdict.specs.ClassSumsTurns.{ListEnds, lists-none, lists-more}
use native.Mathlib.Omega.{arith}
use borrow.Author.Rules.{rules}
use Rattle.verdict.proofs.class_sums.ending_lists.Goals as goal

pub loop-v-init : goal.loop-v-init
unfolding occupied
loop-v-init c = (refl, lists-none _ _ _ _ c.requires.4)

pub overflow_add-size : goal.overflow_add-size
overflow_add-size c = omega (arith, c.loop-v-test.true, c.requires.0.few)

pub offset_bounds-sizes-v : goal.offset_bounds-sizes-v
offset_bounds-sizes-v c = omega (arith, c.loop-v-test.true, c.requires.0.few)

pub bounds-sizes-v : goal.bounds-sizes-v
bounds-sizes-v c = omega (arith, c.loop-v-test.true, c.requires.0.room)

pub offset_bounds-accepting-v : goal.offset_bounds-accepting-v
offset_bounds-accepting-v c = omega (arith, c.loop-v-test.true, c.requires.0.few)

pub bounds-accepting-v : goal.bounds-accepting-v
bounds-accepting-v c = omega (arith, c.loop-v-test.true, c.requires.1)

pub inner-requires : goal.inner-requires
inner-requires c = omega (arith, c.requires.0.small c.loop-v.v c.loop-v-test.true)

pub end_list-requires : goal.end_list-requires
end_list-requires c =
    let s = c in
    let a = s.args in
    let l = c.loop-v in
    let test = c.loop-v-test.true in (
      omega (arith, test, s.requires.0.few),
      search rules,
      λ i m.
          let size = get_or a.sizes.now (l.v + 1) 0 in
          let low = ((member-cut size i (get_or a.accepting.now (l.v + 1) 0 / 2)).0 (subst (Member i) c.inner.ensures m)).0 in
          let room = occupied-room a.sizes.now l.v a.lists test in
          let here : l.base + 1 + i ≤ occupied a.sizes.now 0 a.lists = omega (arith, low, room, l.invariant.0) in
          (omega (arith, here, s.requires.2), s.requires.3 (l.base + 1 + i) (omega arith) here),
    )

pub overflow_add-base : goal.overflow_add-base
overflow_add-base c =
    let s = c in
    let l = c.loop-v in
    let v = l.v in
    omega (
      arith,
      l.invariant.0,
      occupied-few s.args.sizes.now s.args.lists 0 v (omega (arith)) s.requires.0,
      s.requires.0.few,
      s.requires.0.small v c.loop-v-test.true,
    )

pub loop-v-preserved : goal.loop-v-preserved
loop-v-preserved c =
    let s = c in
    let a = s.args in
    let l = c.loop-v in
    let now = c.end_list.new.ends in
    let test = c.loop-v-test.true in (
      omega (arith, l.invariant.0, occupied-more a.sizes.now l.v),
      lists-more l.v a.sizes.now a.accepting.now a.classes.now l.ends now
          (subst (λ z. ListEnds z (occupied a.sizes.now 0 l.v) l.v a.classes.now l.ends now) c.inner.ensures
          (subst (λ z. ListEnds c.inner.result z l.v a.classes.now l.ends now) l.invariant.0 c.end_list.ensures))
          l.invariant.1,
    )

pub returns : goal.returns
returns c =
    let a = c.args in
    let l = c.loop-v in
    let e : l.v ≡ a.lists = omega (arith, c.loop-v-test.false) in
    subst (λ z. EndingLists z a.sizes.now a.accepting.now a.classes.now l.ends) e l.invariant.1
