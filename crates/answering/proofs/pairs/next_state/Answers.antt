use Rattle.std.specs.Prelude.{◌/◌, ◌%◌, ◌^◌}
use lib.Count.{trailing_le}
use Rattle.answering.specs.NextState.{word_of, passed-word, next-found, next-over, next-none}
use native.Mathlib.Omega.{arith}
use Rattle.answering.proofs.pairs.next_state.Goals as goal

pub loop-s-init : goal.loop-s-init
loop-s-init c = (omega arith, λ t a b m. omega arith)

pub overflow_cast-next : goal.overflow_cast-next
overflow_cast-next c =
    let l = c.loop-s in
    let a = c.args in
    omega (arith, trailing_le 64 (word_of a.words a.pairs.now a.x l.s / 2 ^ (l.s % 64)))

pub overflow_add-next : goal.overflow_add-next
overflow_add-next c =
    let l = c.loop-s in
    let a = c.args in
    omega (arith, trailing_le 64 (word_of a.words a.pairs.now a.x l.s / 2 ^ (l.s % 64)))

pub returns-then-next-most : goal.returns-then-next-most
returns-then-next-most c =
    let l = c.loop-s in
    let a = c.args in
    next-found a.words a.pairs.now a.x l.s a.from l.invariant.1
    (omega arith) c.if-word-ne0.true a.most l.invariant.0 c.if-next-most.true

pub returns-else-next-most : goal.returns-else-next-most
returns-else-next-most c =
    let l = c.loop-s in
    let a = c.args in
    next-over a.words a.pairs.now a.x l.s a.from l.invariant.1
    (omega arith) c.if-word-ne0.true a.most (omega (arith, c.if-next-most.false))

pub loop-s-preserved : goal.loop-s-preserved
loop-s-preserved c =
    let l = c.loop-s in
    let a = c.args in
    (omega arith, passed-word a.words a.pairs.now a.x l.s a.from l.invariant.1 c.if-word-ne0.false)

pub returns : goal.returns
returns c =
    let l = c.loop-s in
    let a = c.args in
    next-none a.words a.pairs.now a.x a.from a.most l.s (omega arith) l.invariant.1
