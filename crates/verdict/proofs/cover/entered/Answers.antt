use Rattle.std.specs.Prelude.{◌+◌, ◌*◌, ◌%◌, ◌^◌}
use mathlib.Core.Path.{sym, ap, ◌∙◌}
use Rattle.theory.specs.Places.{union}
use Rattle.places.specs.Words.{number_of}
use Rattle.verdict.specs.CoverLoops.{entered-start, entered-turn, entered-end}
use native.Mathlib.Omega.{arith}
use Rattle.verdict.proofs.cover.entered.Goals as goal

pub loop-v-init : goal.loop-v-init
loop-v-init c = (c.requires.2, entered-start _ _ _ _ _ _ _)

pub step_at-requires : goal.step_at-requires
step_at-requires c = let p = c.requires.0 in omega (arith, c.loop-v-test.true, p.counted.few, p.follow-room, p.enter-room, p.label)

pub overflow_add-from : goal.overflow_add-from
overflow_add-from c = omega (arith, c.loop-v.invariant.1.low, c.loop-v.invariant.1.inside, c.requires.0.counted.few, c.requires.1)

pub add_shifted-requires : goal.add_shifted-requires
add_shifted-requires c = c.loop-v.invariant.0

pub overflow_add-base : goal.overflow_add-base
overflow_add-base c = omega (arith, c.loop-v-test.true, c.requires.0.counted.few)

pub offset_bounds-sizes-v : goal.offset_bounds-sizes-v
offset_bounds-sizes-v c = omega (arith, c.loop-v-test.true, c.requires.0.counted.few)

pub bounds-sizes-v : goal.bounds-sizes-v
bounds-sizes-v c = omega (arith, c.loop-v-test.true, c.requires.0.counted.room)

pub overflow_add-base-in-loop-v : goal.overflow_add-base-in-loop-v
overflow_add-base-in-loop-v c = omega (arith, c.loop-v-test.true, c.loop-v.invariant.1.low, c.requires.0.counted.few, c.requires.0.counted.small c.loop-v.v c.loop-v-test.true)

pub loop-v-preserved : goal.loop-v-preserved
loop-v-preserved c =
    let l = c.loop-v in
    let s = c in (
      c.add_shifted.auto.words ∙ l.invariant.0,
      entered-turn s.args.lists s.args.a s.args.follow.now s.args.enter.now s.args.sizes.now s.args.w s.args.from
          s.args.into.now l.into c.add_shifted.new.words l.base l.v s.requires.0 c.loop-v-test.true l.invariant.1
          (c.add_shifted.ensures
          ∙ ap (λ x. union (number_of l.into) ((x * 2 ^ (s.args.from + l.base)) % 2 ^ 1024)) c.step_at.ensures),
    )

pub shape_of-into : goal.shape_of-into
shape_of-into c = c.loop-v.invariant.0 ∙ sym c.requires.2

pub returns : goal.returns
returns c = entered-end _ _ _ _ _ _ _ _ c.loop-v.base c.loop-v.v c.loop-v-test.false c.loop-v.invariant.1
