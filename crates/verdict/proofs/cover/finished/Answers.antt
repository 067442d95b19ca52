use Rattle.std.specs.Prelude.{◌%◌, ◌^◌, length}
use mathlib.Core.Path.{refl, sym, ap, ◌∙◌, subst}
use Rattle.theory.specs.Places.{union}
use Rattle.places.specs.Words.{number_of}
use Rattle.verdict.specs.CoverTold.{Finished}
use Rattle.verdict.specs.CoverLoops.{end_at, finished-start, finished-turn, finished-at, finished-end}
use native.Mathlib.Omega.{arith}
use Rattle.verdict.proofs.cover.finished.Goals as goal

pub loop-v-init : goal.loop-v-init
loop-v-init c = (refl, finished-start _ _ _ _ _ _ _)

pub overflow_add-size : goal.overflow_add-size
overflow_add-size c = omega (arith, c.loop-v-test.true, c.requires.0.few)

pub offset_bounds-sizes-v : goal.offset_bounds-sizes-v
offset_bounds-sizes-v c = omega (arith, c.loop-v-test.true, c.requires.0.few)

pub bounds-sizes-v : goal.bounds-sizes-v
bounds-sizes-v c = omega (arith, c.loop-v-test.true, c.requires.0.room)

pub ended-requires : goal.ended-requires
ended-requires c = let s = c in omega (arith, c.loop-v-test.true, s.requires.0.few, s.requires.1, s.requires.2, s.requires.3, s.requires.4, ap length c.loop-v.invariant.0 ∙ s.requires.5)

pub shape_of-into-then-rest-size : goal.shape_of-into-then-rest-size
shape_of-into-then-rest-size c = c.ended.auto.into ∙ ap length c.loop-v.invariant.0

pub returns-then-rest-size : goal.returns-then-rest-size
returns-then-rest-size c =
    let l = c.loop-v in
    let s = c in
    finished-at s.args.lists s.args.sizes.now s.args.accepting.now s.args.table.now s.args.w s.args.o s.args.q
    l.rest l.v s.args.into.now c.ended.new.into s.requires.0 c.loop-v-test.true c.if-rest-size.true l.invariant.1
    (c.ended.ensures ∙ ap (λ x. union (number_of x) (end_at s.args.accepting.now s.args.table.now s.args.w l.v l.rest s.args.q % 2 ^ 1024)) l.invariant.0)

pub overflow_sub-rest : goal.overflow_sub-rest
overflow_sub-rest c = omega (arith, c.if-rest-size.false)

pub loop-v-preserved : goal.loop-v-preserved
loop-v-preserved c =
    let l = c.loop-v in
    let s = c in (
      l.invariant.0,
      finished-turn s.args.lists s.args.sizes.now s.args.accepting.now s.args.table.now s.args.w s.args.o s.args.q
          l.rest l.v s.requires.0 c.loop-v-test.true c.if-rest-size.false l.invariant.1,
    )

pub shape_of-into : goal.shape_of-into
shape_of-into c = ap length c.loop-v.invariant.0

pub returns : goal.returns
returns c =
    let l = c.loop-v in
    let s = c in
    subst (λ x. Finished s.args.lists s.args.sizes.now s.args.accepting.now s.args.table.now s.args.w s.args.o s.args.q s.args.into.now x)
    (sym l.invariant.0) (finished-end _ _ _ _ _ _ _ l.rest l.v _ c.loop-v-test.false l.invariant.1)
