use Rattle.std.specs.Prelude.{◌≡◌, ◌-◌, get_or}
use mathlib.Core.Path.{sym, ap, ◌∙◌}
use Rattle.finding.specs.BucketsLaws.{walk_start, walk_turn, walk-less}
use Rattle.finding.specs.NumberIndex.{bucket_of, number_after}
use Rattle.finding.specs.NumberIndexLaws.{walk-found, walk_end, number-before}
use native.Mathlib.Omega.{arith}
use Rattle.finding.proofs.index.Index.find_place.Goals as goal

pub loop-next-init : goal.loop-next-init
loop-next-init c =
    let a = c.args in
    rw c.from-next.ensures (
    walk_start bucket_of 509 255 (number_after a.found.now) (a.n - 1) a.self.now.heads a.self.now.nexts c.requires.3.chained a.x a.at
    c.requires.2 (omega (arith, c.requires.2))
    )

pub offset_bounds-found-next : goal.offset_bounds-found-next
offset_bounds-found-next c = omega (arith, c.loop-next.invariant.within, c.requires.1)

pub bounds-found-next : goal.bounds-found-next
bounds-found-next c = omega (arith, c.loop-next.invariant.within, c.requires.0, c.requires.3.some)

pub returns-then-found-next : goal.returns-then-found-next
returns-then-found-next c =
    let a = c.args in
    let l = c.loop-next in
    walk-found a.found.now a.n a.x a.self.now.heads a.self.now.nexts c.requires.0 c.requires.3 l.next l.invariant c.if-found-next.true

pub bounds-self-next : goal.bounds-self-next
bounds-self-next c = omega (arith, c.loop-next.invariant.within, c.requires.1, c.loop-next-test.true)

pub loop-next-smaller : goal.loop-next-smaller
loop-next-smaller c =
    let a = c.args in
    let l = c.loop-next in
    rw c.from-next-in-loop-next.ensures (
    walk-less bucket_of 509 255 (number_after a.found.now) (a.n - 1) a.self.now.heads a.self.now.nexts c.requires.3.chained a.x l.next
    l.invariant c.loop-next-test.true
    )

pub loop-next-preserved : goal.loop-next-preserved
loop-next-preserved c =
    let a = c.args in
    let l = c.loop-next in
    let h = c.loop-next-test.true in
    rw c.from-next-in-loop-next.ensures (
    walk_turn bucket_of 509 255 (number_after a.found.now) (a.n - 1) a.self.now.heads a.self.now.nexts c.requires.3.chained a.x l.next
    l.invariant h (number-before a.found.now a.x l.next h c.if-found-next.false)
    )

pub bounds-found-0 : goal.bounds-found-0
bounds-found-0 c = omega (arith, c.requires.0, c.requires.3.some)

pub returns-then-found-x : goal.returns-then-found-x
returns-then-found-x c =
    let a = c.args in
    let l = c.loop-next in
    let z : l.next ≡ 0 = omega (arith, c.loop-next-test.false) in
    sym z ∙ walk-found a.found.now a.n a.x a.self.now.heads a.self.now.nexts c.requires.0 c.requires.3 l.next l.invariant
    (ap (λ i. get_or a.found.now i 0) z ∙ c.if-found-x.true)

pub returns-else-found-x : goal.returns-else-found-x
returns-else-found-x c =
    let a = c.args in
    let l = c.loop-next in
    walk_end a.found.now a.n a.x a.self.now.heads a.self.now.nexts c.requires.0 c.requires.3 l.next l.invariant
    c.loop-next-test.false c.if-found-x.false
