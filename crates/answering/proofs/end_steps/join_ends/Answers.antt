use Rattle.answering.specs.EndStepsLaws.{coming-none, coming-here, coming-turn, joined-all}
use native.Mathlib.Omega.{arith}
use borrow.Author.Rules.{rules}
use Rattle.answering.proofs.end_steps.join_ends.Goals as goal

pub loop-p-init : goal.loop-p-init
loop-p-init c = (search rules, search rules, coming-none (omega arith) (search rules))

pub overflow_add-row : goal.overflow_add-row
overflow_add-row c =
    let (some, is, left) = c.in-Some.ensures.steps in
    omega (arith, is, c.requires.0 _ (coming-here c.loop-p.invariant.2 some))

pub overflow_mul-row : goal.overflow_mul-row
overflow_mul-row c =
    let (some, is, left) = c.in-Some.ensures.steps in
    omega (arith, is, c.requires.0 _ (coming-here c.loop-p.invariant.2 some))

pub unite-requires : goal.unite-requires
unite-requires c =
    let (some, is, left) = c.in-Some.ensures.steps in
    rw is (c.requires.0 _ (coming-here c.loop-p.invariant.2 some), omega (arith, c.loop-p.invariant.2.words-kept))

pub loop-p-preserved : goal.loop-p-preserved
loop-p-preserved c =
    let (some, is, left) = c.in-Some.ensures.steps in
    rw left (search rules, search rules, coming-turn c.loop-p.invariant.2 some c.unite.auto.into (rw is at c.unite.ensures))

pub returns : goal.returns
returns c = joined-all c.args.row c.in-None.ensures.steps.0 c.loop-p.invariant.2
