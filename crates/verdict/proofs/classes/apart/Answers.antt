use mathlib.Core.Path.{refl, ◌∙◌}
use lib.ListN.{length-set}
use Rattle.verdict.specs.ClassesTurns.{numbered-start, numbered-turn, numbered-end}
use native.Mathlib.Omega.{arith}
use Rattle.verdict.proofs.classes.apart.Goals as goal

pub loop-o-init : goal.loop-o-init
loop-o-init c = (omega arith, omega (arith, c.requires.1), refl, numbered-start _ _)

pub loop-o-preserved : goal.loop-o-preserved
loop-o-preserved c =
    let s = c in
    let l = c.loop-o in (
      omega arith,
      omega (arith, c.loop-o-test.true),
      length-set l.classes _ _ ∙ l.invariant.2,
      numbered-turn l.o s.args.w s.args.w l.o _ l.classes l.invariant.0
          (omega (arith, l.invariant.2, s.requires.2, c.loop-o-test.true)) l.invariant.0 c.loop-o-test.true (omega arith) l.invariant.3,
    )

pub returns : goal.returns
returns c =
    let s = c in
    let l = c.loop-o in (
      numbered-end s.args.w l.o s.args.w _ l.classes s.requires.1 s.requires.0 (omega arith)
          (omega (arith, c.loop-o-test.false)) l.invariant.3,
      l.invariant.3.alone,
    )
