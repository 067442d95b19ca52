use Rattle.std.specs.Prelude.{◌≡◌, ◌+◌, ◌*◌, ◌%◌, ◌^◌, set}
use mathlib.Core.Path.{refl, sym, ◌∙◌, subst}
use lib.Dec.{lit<}
use lib.ListN.{length-set}
use lib.Pow.{shl_exact}
use Rattle.theory.specs.Places.{one, union}
use Rattle.finding.specs.MoveTable.{row_within}
use Rattle.finding.specs.Sources.{Begun}
use Rattle.finding.specs.SourcesSearch.{begun-none, begun_more}
use native.Mathlib.Omega.{arith}
use Rattle.finding.proofs.sources.begin.Goals as goal

pub overflow_mul-count : goal.overflow_mul-count
overflow_mul-count c = omega (arith, c.requires.2)

pub loop-i-init : goal.loop-i-init
loop-i-init c =
    let x = c.args in (
      refl,
      subst (λ l. Begun x.count 0 x.places l 0) (sym (c.clear.ensures.enough c.requires.2))
          (begun-none x.count x.places x.from.now),
    )

pub bounds-from-i : goal.bounds-from-i
bounds-from-i c =
    let x = c.args in
    let p = c.requires in
    omega (
      arith,
      c.loop-i.invariant.0,
      c.clear.auto.items,
      p.2,
      row_within x.count 0 x.places p.1,
    )

pub loop-i-preserved : goal.loop-i-preserved
loop-i-preserved c =
    let l = c.loop-i in
    let x = c.args in
    let p = c.requires in
    let bit : 1 * 2 ^ l.i % 2 ^ 64 ≡ one l.i = shl_exact {a = 1} 1 l.i 64 (lit< tt) (omega arith) ∙ omega arith in (
      length-set l.from l.i (1 * 2 ^ l.i % 2 ^ 64) ∙ l.invariant.0,
      subst (λ z. Begun x.count (l.i + 1) x.places (set l.from l.i z) (union l.all z)) (sym bit)
          (begun_more x.count l.i x.places l.from l.all c.loop-i-test.true
          (omega (arith, l.invariant.0, c.clear.auto.items, p.2, row_within x.count 0 x.places p.1)) l.invariant.1),
    )

pub returns : goal.returns
returns c =
    let l = c.loop-i in
    let x = c.args in
    let e : l.i ≡ x.count = omega arith in
    subst (λ z. Begun x.count z x.places l.from l.all) e l.invariant.1
