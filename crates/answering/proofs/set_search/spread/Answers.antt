use Rattle.answering.specs.SetSteps.{spread_none, spread-more, spread-next, states-less, rows-below}
use native.Mathlib.Omega.{arith}
use Rattle.answering.proofs.set_search.spread.Goals as goal

pub loop-next-init : goal.loop-next-init
loop-next-init c =
    let a = c.args in
    spread-next _ (omega arith) (spread_none a.sets.now a.x a.pending.now c.zero_from.ensures) c.next_state-next.ensures

pub overflow_mul-row-in-Some : goal.overflow_mul-row-in-Some
overflow_mul-row-in-Some c =
    let z = c.args.sizes in
    let r = c.requires.rows in
    let v = rw c.in-Some.is at c.loop-next.invariant in
    omega (arith, rows-below z.words z.symbols z.states v.0)

pub unite-requires : goal.unite-requires
unite-requires c =
    let z = c.args.sizes in
    let r = c.requires.rows in
    let h = c.requires.room in
    let v = rw c.in-Some.is at c.loop-next.invariant in
    (omega (arith, rows-below z.words z.symbols z.states v.0), omega arith)

pub overflow_add-s : goal.overflow_add-s
overflow_add-s c =
    let m = c.requires.most in
    let v = rw c.in-Some.is at c.loop-next.invariant in
    omega (arith, v.0)

pub next_state-next-requires-in-Some : goal.next_state-next-requires-in-Some
next_state-next-requires-in-Some c =
    let p = c.requires in
    let v = rw c.in-Some.is at c.loop-next.invariant in
    (p.words, p.width, p.most, omega (arith, v.0))

pub loop-next-smaller : goal.loop-next-smaller
loop-next-smaller c =
    let v = rw c.in-Some.is at c.loop-next.invariant in
    rw c.in-Some.is (states-less c.args.sizes.words c.args.pending.now c.args.x _ v.0 c.next_state-next-in-Some.ensures)

pub loop-next-preserved : goal.loop-next-preserved
loop-next-preserved c =
    let v = rw c.in-Some.is at c.loop-next.invariant in
    spread-next _ (omega (arith, v.0)) (spread-more c.args.sets.now v.2 v.1 c.unite.ensures) c.next_state-next-in-Some.ensures

pub returns : goal.returns
returns c = rw c.in_default.is at c.loop-next.invariant
