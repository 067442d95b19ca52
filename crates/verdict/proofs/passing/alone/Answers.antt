use Rattle.std.specs.Prelude.{◌+◌, ◌*◌, ◌/◌}
use mathlib.Core.Path.{refl, ◌∙◌}
use lib.ListN.{length-set}
use Rattle.verdict.specs.PassingTurns.{alone-start, alone-turn, alone-end, word-inside, words-few}
use Rattle.std.proofs.Common.{arith}
use Rattle.std.proofs.lemmas.Grind.{common_steps}
use Rattle.verdict.proofs.passing.alone.Goals as goal

pub overflow_mul-k : goal.overflow_mul-k
overflow_mul-k c =
    let s = c in
    omega (arith, words-few s.args.k s.args.states s.requires.0, s.requires.0, s.requires.1)

pub loop-t-init : goal.loop-t-init
loop-t-init c =
    let s = c in
    let a = s.args in
    (refl, alone-start a.k a.states _ (λ i h. grind (arith, common_steps)))

pub overflow_mul-passes : goal.overflow_mul-passes
overflow_mul-passes c =
    let s = c in
    omega (arith, words-few s.args.k c.loop-t.t s.requires.0, c.loop-t-test.true, s.requires.0, s.requires.1)

pub overflow_add-passes : goal.overflow_add-passes
overflow_add-passes c =
    let s = c in
    omega (arith, words-few s.args.k c.loop-t.t s.requires.0, c.loop-t-test.true, s.requires.0, s.requires.1)

pub offset_bounds-passes-k : goal.offset_bounds-passes-k
offset_bounds-passes-k c =
    let s = c in
    omega (arith, words-few s.args.k c.loop-t.t s.requires.0, c.loop-t-test.true, s.requires.0, s.requires.1)

pub bounds-passes-k : goal.bounds-passes-k
bounds-passes-k c =
    let s = c in
    let l = c.loop-t in
    let test = c.loop-t-test.true in
    let inside = word-inside s.args.k s.args.states l.t (l.t / 64) (omega (arith, test, s.requires.1)) test in
    omega (arith, inside, s.requires.2, l.invariant.0, c.fill.auto.self)

pub loop-t-preserved : goal.loop-t-preserved
loop-t-preserved c =
    let s = c in
    let l = c.loop-t in
    let test = c.loop-t-test.true in
    let inside = word-inside s.args.k s.args.states l.t (l.t / 64) (omega (arith, test, s.requires.1)) test in (
      length-set l.passes (s.args.k * l.t + l.t / 64) _ ∙ l.invariant.0,
      alone-turn s.args.k s.args.states l.passes l.t s.requires.1 test
          (omega (arith, inside, s.requires.2, l.invariant.0, c.fill.auto.self)) l.invariant.1,
    )

pub returns : goal.returns
returns c =
    let s = c in
    let l = c.loop-t in
    alone-end s.args.k s.args.states l.passes l.t s.requires.1 (omega (arith, c.loop-t-test.false)) l.invariant.1
