use Rattle.std.proofs.lemmas.Nat.{trailing_le}
use Rattle.answering.specs.EndStepsLaws.{coming-none, coming-here, coming-turn, given-all}
use native.Mathlib.Omega.{arith}
use borrow.Author.Rules.{rules}
use Rattle.answering.proofs.end_steps.give_ends.Goals as goal

pub loop-t-init : goal.loop-t-init
loop-t-init c = (search rules, search rules, coming-none (omega arith) (search rules))

pub overflow_mul-t : goal.overflow_mul-t
overflow_mul-t c =
    let (some, is, left) = c.in-Some.ensures.steps in
    omega (arith, is, trailing_le 64 c.loop-t.t-iterator.rest)

pub unite-requires : goal.unite-requires
unite-requires c =
    let (some, is, left) = c.in-Some.ensures.steps in
    let l = c.loop-t in
    (omega arith, omega (arith, is, l.invariant.2.words-kept, c.requires.0 _ (coming-here l.invariant.2 some)))

pub loop-t-preserved : goal.loop-t-preserved
loop-t-preserved c =
    let (some, is, left) = c.in-Some.ensures.steps in
    rw left (search rules, search rules, coming-turn c.loop-t.invariant.2 some c.unite.auto.into (rw is at c.unite.ensures))

pub returns : goal.returns
returns c = given-all c.in-None.ensures.steps.0 c.loop-t.invariant.2
