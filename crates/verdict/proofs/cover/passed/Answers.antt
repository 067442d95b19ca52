use mathlib.Core.Path.{sym, ◌∙◌}
use Rattle.verdict.specs.CoverLoops.{passed_start, passed-turn, passed-end}
use native.Mathlib.Omega.{arith}
use Rattle.verdict.proofs.cover.passed.Goals as goal

pub loop-v-init : goal.loop-v-init
loop-v-init c = (c.requires.5, passed_start _ _ _ _ _ _)

pub ended-requires : goal.ended-requires
ended-requires c = let s = c in omega (arith, c.loop-v-test.true, s.requires.0, s.requires.1, s.requires.2, s.requires.3, s.requires.4, c.loop-v.invariant.0)

pub loop-v-preserved : goal.loop-v-preserved
loop-v-preserved c =
    let l = c.loop-v in
    let s = c in (
      c.ended.auto.into ∙ l.invariant.0,
      passed-turn s.args.lists s.args.accepting.now s.args.table.now s.args.w s.args.q s.args.into.now l.into
          c.ended.new.into l.v c.loop-v-test.true l.invariant.1 c.ended.ensures,
    )

pub shape_of-into : goal.shape_of-into
shape_of-into c = c.loop-v.invariant.0 ∙ sym c.requires.5

pub returns : goal.returns
returns c = passed-end _ _ _ _ _ _ _ c.loop-v.v c.loop-v-test.false c.loop-v.invariant.1
