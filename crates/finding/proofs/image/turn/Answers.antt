use Rattle.std.specs.Prelude.{◌≡◌, ◌++◌, drop, replicate}
use mathlib.Core.Path.{refl, sym, ◌∙◌, subst}
use Rattle.finding.specs.ImagesTurned.{Turned, ended-inside, turned_none, turned_more, turned-cleared}
use native.Mathlib.Omega.{arith}
use Rattle.finding.proofs.image.turn.Goals as goal

pub loop-to-init : goal.loop-to-init
loop-to-init c =
    let x = c.args in
    let e = c.clear.ensures.enough c.requires.2 in (
      refl,
      subst (λ l. Turned x.count x.places x.accepting x.from.now 0 l l) (sym e)
          (turned_none x.count x.places x.accepting x.from.now x.out.now),
    )

pub add_to-requires : goal.add_to-requires
add_to-requires c =
    let l = c.loop-to in
    let x = c.args in
    let p = c.requires in
    let e = c.ended-all in (
      omega (arith, p.0),
      λ i m.
          let h =
          ended-inside x.count x.places x.from.now l.to e.result p.3 c.loop-to-test.true e.ensures i m in
          omega (arith, h, p.2, l.invariant.0, c.clear.auto.items),
    )

pub loop-to-preserved : goal.loop-to-preserved
loop-to-preserved c =
    let l = c.loop-to in
    let x = c.args in
    let a = c.add_to in
    let e = c.ended-all in (
      a.ensures.size ∙ l.invariant.0,
      turned_more x.count x.places x.accepting x.from.now _ l.to e.result l.out _ c.requires.3
          c.loop-to-test.true l.invariant.1 e.ensures a.ensures,
    )

pub returns : goal.returns
returns c =
    let l = c.loop-to in
    let p = c.requires in
    let x = c.args in
    let e : l.to ≡ x.count = omega arith in
    let f = c.clear.ensures.enough p.2 in
    turned-cleared x.count x.places x.accepting x.from.now x.out.now x.count l.out p.2
    (subst
    (λ z. Turned x.count x.places x.accepting x.from.now z (replicate x.count 0 ++ drop x.count x.out.now) l.out)
    e
    (subst (λ z. Turned x.count x.places x.accepting x.from.now l.to z l.out) f l.invariant.1))
