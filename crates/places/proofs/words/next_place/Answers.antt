use Prim.Native.Nat.{◌+◌}
use lib.Count.{trailing_le}
use Rattle.places.specs.NextPlace.{passing-start, passing-next, passing-none, passing-found, next-beyond}
use native.Mathlib.Omega.{arith}
use Rattle.places.proofs.words.next_place.Goals as goal

pub returns-then-from-ge1024 : goal.returns-then-from-ge1024
returns-then-from-ge1024 c = next-beyond _ _ c.if-from-ge1024.true

pub loop-word-init : goal.loop-word-init
loop-word-init c =
    (omega arith, passing-start c.args.words.now (λ i. omega (arith, c.type_inv.words i)) c.requires c.args.from c.if-from-ge1024.false)

pub returns-then-index-eq16 : goal.returns-then-index-eq16
returns-then-index-eq16 c =
    let l = c.loop-word in
    passing-none c.args.words.now (λ i. omega (arith, c.type_inv.words i)) c.requires c.args.from l.index l.word
    l.invariant.1 c.loop-word-test.true c.if-index-eq16.true

pub loop-word-preserved : goal.loop-word-preserved
loop-word-preserved c =
    let l = c.loop-word in (
      omega (arith, c.type_inv.words (l.index + 1)),
      passing-next c.args.words.now (λ i. omega (arith, c.type_inv.words i)) c.requires c.args.from l.index l.word
          l.invariant.1 c.loop-word-test.true c.if-index-eq16.false,
    )

pub overflow_cast-result : goal.overflow_cast-result
overflow_cast-result c = omega (arith, trailing_le 64 c.loop-word.word)

pub overflow_add-result : goal.overflow_add-result
overflow_add-result c = omega (arith, trailing_le 64 c.loop-word.word, c.loop-word.invariant.1.inside)

pub returns : goal.returns
returns c =
    let l = c.loop-word in
    passing-found c.args.words.now (λ i. omega (arith, c.type_inv.words i)) c.requires c.args.from l.index l.word
    l.invariant.0 l.invariant.1 c.loop-word-test.false
