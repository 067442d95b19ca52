use Rattle.std.specs.Prelude.{◌≡◌, ℕ, ◌+◌}
use mathlib.Core.Bool.{false≢true}
use mathlib.Core.Path.{refl, ◌∙◌, subst}
use Rattle.verdict.specs.ColumnOffsets.{offset-small}
use Rattle.verdict.specs.WideRowsPrepared.{ListSteps, steps-start, steps-turn}
use Rattle.verdict.specs.WordBits.{first-none}
use native.Mathlib.Omega.{arith}
use Rattle.verdict.proofs.wide_rows.list_steps.Goals as goal

pub loop-o-init : goal.loop-o-init
loop-o-init c = (refl, steps-start _ _ _ _ _)

pub shape_of-rows-then-set-eq1 : goal.shape_of-rows-then-set-eq1
shape_of-rows-then-set-eq1 c =
    let l = c.loop-o in
    l.invariant.0

pub returns-then-set-eq1 : goal.returns-then-set-eq1
returns-then-set-eq1 c = λ e. absurd (false≢true e)

pub overflow_mul-offset_from : goal.overflow_mul-offset_from
overflow_mul-offset_from c =
    let s = c in
    let l = c.loop-o in
    let p = s.requires in
    let a = s.args in
    omega (arith, c.offset_from.ensures, offset-small a.base l.o a.size (omega arith), p.2)

pub add_places-requires : goal.add_places-requires
add_places-requires c =
    let s = c in
    let l = c.loop-o in
    let a = s.args in
    let p = s.requires in (
      p.1,
      p.2,
      omega (arith, c.offset_from.ensures, offset-small a.base l.o a.size (omega arith), p.2, p.4, l.invariant.0),
    )

pub loop-o-preserved : goal.loop-o-preserved
loop-o-preserved c =
    let s = c in
    let add-places = c.add_places in
    let offset-from = c.offset_from in
    let if1 = c.if-set-eq1 in
    let p = s.requires in
    let a = s.args in
    let l = c.loop-o in (
      add-places.auto.rows ∙ l.invariant.0,
      steps-turn a.v l.o a.size a.base offset-from.result _ a.follow.now _ l.rows add-places.new.rows
          refl (first-none _ if1.false) offset-from.ensures
          (omega (arith, offset-from.ensures, offset-small a.base l.o a.size (omega arith), p.2)) add-places.ensures l.invariant.1,
    )

pub shape_of-rows : goal.shape_of-rows
shape_of-rows c = c.loop-o.invariant.0

pub returns : goal.returns
returns c =
    let s = c in
    let a = s.args in
    let l = c.loop-o in
    let e : l.o ≡ a.size + 1 = omega (arith, c.loop-o-test.false) in
    λ t. subst (λ (z : ℕ). ListSteps a.v z a.size a.base a.follow.now a.rows.now l.rows) e l.invariant.1
