use Rattle.std.specs.Prelude.{◌≡◌}
use mathlib.Core.Path.{refl, ◌∙◌, subst}
use lib.ListN.{length-set}
use Rattle.verdict.specs.ClassSumsTurns.{reached_by, WordsBefore, words-start, words-turn}
use native.Mathlib.Omega.{arith}
use Rattle.verdict.proofs.class_sums.class_words.Goals as goal

pub loop-q-init : goal.loop-q-init
loop-q-init c = (refl, words-start _ _)

pub reached_by-requires : goal.reached_by-requires
reached_by-requires c =
    let s = c in
    let test = c.loop-q-test.true in
    (omega (arith, test, s.requires.0), s.requires.1, λ v m. s.requires.3 c.loop-q.q v test m)

pub overflow_add-ended : goal.overflow_add-ended
overflow_add-ended c = omega (arith, c.loop-q-test.true, c.requires.0)

pub offset_bounds-ended-q : goal.offset_bounds-ended-q
offset_bounds-ended-q c = omega (arith, c.loop-q-test.true, c.requires.0)

pub bounds-ended-q : goal.bounds-ended-q
bounds-ended-q c =
    let s = c in
    omega (arith, c.loop-q-test.true, s.requires.0, s.requires.2, c.loop-q.invariant.0)

pub loop-q-preserved : goal.loop-q-preserved
loop-q-preserved c =
    let s = c in
    let l = c.loop-q in
    let test = c.loop-q-test.true in (
      length-set l.ended _ _ ∙ l.invariant.0,
      words-turn _ s.args.ended.now l.ended l.q _ c.reached_by.ensures (omega (arith, test, s.requires.0, s.requires.2, l.invariant.0)) l.invariant.1,
    )

pub shape_of-ended : goal.shape_of-ended
shape_of-ended c = c.loop-q.invariant.0

pub returns : goal.returns
returns c =
    let a = c.args in
    let l = c.loop-q in
    let e : l.q ≡ a.states = omega (arith, c.loop-q-test.false) in
    subst (WordsBefore (reached_by a.passes.now a.table.now a.set) a.ended.now l.ended) e l.invariant.1
