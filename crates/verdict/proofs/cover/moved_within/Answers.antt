use Rattle.std.specs.Prelude.{◌+◌, ◌*◌, ◌%◌, ◌^◌, length}
use mathlib.Core.Path.{refl, sym, ap, ap₂, ◌∙◌, subst}
use Rattle.theory.specs.Places.{union}
use Rattle.places.specs.Words.{number_of}
use Rattle.verdict.specs.CoverTold.{MovedWithin}
use Rattle.verdict.specs.CoverLoops.{within-start, within-turn, within-here, within_end}
use native.Mathlib.Omega.{arith}
use Rattle.verdict.proofs.cover.moved_within.Goals as goal

pub loop-v-init : goal.loop-v-init
loop-v-init c = (refl, within-start _ _ _ _ _ _)

pub overflow_add-size : goal.overflow_add-size
overflow_add-size c = omega (arith, c.loop-v-test.true, c.requires.0.counted.few)

pub offset_bounds-sizes-v : goal.offset_bounds-sizes-v
offset_bounds-sizes-v c = omega (arith, c.loop-v-test.true, c.requires.0.counted.few)

pub bounds-sizes-v : goal.bounds-sizes-v
bounds-sizes-v c = omega (arith, c.loop-v-test.true, c.requires.0.counted.room)

pub step_at-requires : goal.step_at-requires
step_at-requires c = let p = c.requires.0 in omega (arith, c.loop-v-test.true, c.if-rest-size.true, p.counted.few, p.follow-room, p.enter-room, p.label, p.counted.small c.loop-v.v c.loop-v-test.true)

pub overflow_add-from : goal.overflow_add-from
overflow_add-from c = omega (arith, c.loop-v.invariant.1.low, c.loop-v.invariant.1.inside, c.requires.0.counted.few, c.requires.1)

pub add_shifted-requires : goal.add_shifted-requires
add_shifted-requires c = ap length c.loop-v.invariant.0 ∙ c.requires.2

pub shape_of-into-then-rest-size : goal.shape_of-into-then-rest-size
shape_of-into-then-rest-size c = c.add_shifted.auto.words ∙ ap length c.loop-v.invariant.0

pub returns-then-rest-size : goal.returns-then-rest-size
returns-then-rest-size c =
    let l = c.loop-v in
    let s = c in
    within-here s.args.lists s.args.a s.args.follow.now s.args.enter.now s.args.sizes.now s.args.w s.args.from
    s.args.o l.base l.rest l.v s.args.into.now c.add_shifted.new.words s.requires.0 c.loop-v-test.true c.if-rest-size.true l.invariant.1
    (c.add_shifted.ensures
    ∙ ap₂ (λ x y. union (number_of y) ((x * 2 ^ (s.args.from + l.base)) % 2 ^ 1024)) c.step_at.ensures l.invariant.0)

pub overflow_sub-rest : goal.overflow_sub-rest
overflow_sub-rest c = omega (arith, c.if-rest-size.false)

pub overflow_add-base : goal.overflow_add-base
overflow_add-base c = omega (arith, c.loop-v-test.true, c.loop-v.invariant.1.low, c.requires.0.counted.few, c.requires.0.counted.small c.loop-v.v c.loop-v-test.true)

pub loop-v-preserved : goal.loop-v-preserved
loop-v-preserved c =
    let l = c.loop-v in
    let s = c in (
      l.invariant.0,
      within-turn s.args.lists s.args.a s.args.follow.now s.args.enter.now s.args.sizes.now s.args.w s.args.o
          l.base l.rest l.v s.requires.0 c.loop-v-test.true c.if-rest-size.false l.invariant.1,
    )

pub shape_of-into : goal.shape_of-into
shape_of-into c = ap length c.loop-v.invariant.0

pub returns : goal.returns
returns c =
    let l = c.loop-v in
    let s = c in
    subst (λ x. MovedWithin s.args.lists s.args.a s.args.follow.now s.args.enter.now s.args.sizes.now s.args.from s.args.o s.args.into.now x)
    (sym l.invariant.0) (within_end _ _ _ _ _ _ _ l.base l.rest l.v _ c.loop-v-test.false l.invariant.1)
