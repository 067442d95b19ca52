use Rattle.std.specs.Prelude.{◌/◌, ◌%◌, get_or}
use mathlib.Core.Path.{sym, ◌∙◌}
use lib.ListN.{length-set}
use Rattle.verdict.specs.ColumnLists.{tested}
use Rattle.verdict.specs.RangesTurns.{state-start, state-turn, state-end, state-there}
use native.Mathlib.Omega.{arith}
use borrow.Author.Rules.{rules}
use Rattle.verdict.proofs.ranges.add_state.Goals as goal

pub returns-then-words-t-eq1 : goal.returns-then-words-t-eq1
returns-then-words-t-eq1 c =
    let s = c in
    let a = s.args in
    state-there a.reached.now a.t a.words.now (λ i. search rules) (tested (a.t % 64) (get_or a.words.now (a.t / 64) 0) c.if-words-t-eq1.true) s.requires.3

pub loop-j-init : goal.loop-j-init
loop-j-init c = (c.requires.0, state-start c.args.reached.now c.args.t _)

pub bounds-words-j : goal.bounds-words-j
bounds-words-j c = omega (arith, c.loop-j.invariant.0, c.loop-j-test.true)

pub bounds-words-j-in-loop-j : goal.bounds-words-j-in-loop-j
bounds-words-j-in-loop-j c = omega (arith, c.loop-j.invariant.0, c.loop-j-test.true)

pub loop-j-preserved : goal.loop-j-preserved
loop-j-preserved c =
    let s = c in
    let a = s.args in
    let l = c.loop-j in
    let test = c.loop-j-test in (
      length-set l.words l.j _ ∙ l.invariant.0,
      state-turn a.reached.now a.t l.j _ l.words (λ i. search rules)
          (omega (arith, test.true, l.invariant.0)) (omega arith) l.invariant.1,
    )

pub shape_of-words : goal.shape_of-words
shape_of-words c = c.loop-j.invariant.0 ∙ sym c.requires.0

pub returns : goal.returns
returns c =
    let a = c.args in
    let l = c.loop-j in
    state-end a.reached.now a.t l.j _ _ (omega (arith, c.loop-j-test.false)) l.invariant.1
