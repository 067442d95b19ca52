use Rattle.std.specs.Prelude.{◌≡◌, ℕ}
use mathlib.Core.Path.{refl, ◌∙◌, subst}
use Rattle.verdict.specs.WideRowsPrepared.{ListEnters, enters-start, enters-turn}
use native.Mathlib.Omega.{arith}
use Rattle.verdict.proofs.wide_rows.list_enters.Goals as goal

pub loop-a-init : goal.loop-a-init
loop-a-init c = (refl, enters-start _ _ _ _ _)

pub add_places-requires : goal.add_places-requires
add_places-requires c =
    let s = c in
    let p = s.requires in
    let l = c.loop-a in
    (p.1, p.2, omega (arith, p.4, l.invariant.0, c.loop-a-test.true))

pub loop-a-preserved : goal.loop-a-preserved
loop-a-preserved c =
    let s = c in
    let test = c.loop-a-test in
    let add-places = c.add_places in
    let a = s.args in
    let l = c.loop-a in
    let h = test.true in (
      add-places.auto.rows ∙ l.invariant.0,
      enters-turn a.v l.a a.size a.base a.enter.now _ l.rows add-places.new.rows h
          add-places.ensures l.invariant.1,
    )

pub shape_of-rows : goal.shape_of-rows
shape_of-rows c = c.loop-a.invariant.0

pub returns : goal.returns
returns c =
    let s = c in
    let a = s.args in
    let l = c.loop-a in
    let e : l.a ≡ 32 = omega (arith, c.loop-a-test.false) in
    subst (λ (z : ℕ). ListEnters a.v z a.size a.base a.enter.now a.rows.now l.rows) e l.invariant.1
