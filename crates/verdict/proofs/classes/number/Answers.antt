use Rattle.std.specs.Prelude.{◌+◌, ◌<◌, ◌≤◌}
use mathlib.Core.Path.{◌∙◌}
use lib.ListN.{length-set}
use Rattle.verdict.specs.ClassesTurns.{numbered-turn, numbered-end}
use native.Mathlib.Omega.{arith}
use Rattle.verdict.proofs.classes.number.Goals as goal
use Rattle.verdict.proofs.classes.number.Goals.{else-c-count, then-c-count+else-count-eq63}

pub loop-o-preserved : goal.loop-o-preserved
loop-o-preserved c =
    let s = c in
    let l = c.loop-o in
    let f = c.find_key-c in
    let more = c.if-c-count.count in
    let counts : (f.result < more) × (l.count ≤ more) × (more ≤ 63) × (more ≤ l.count + 1) =
    (elim c.if-c-count.branch [
      | then-c-count+else-count-eq63 w ↦ (
        omega (arith, w.count-is, w.if-c-count.true),
        omega (arith, w.count-is),
        omega (arith, w.count-is, w.if-count-eq63.false, l.invariant.3),
        omega (arith, w.count-is),
      )
      | else-c-count w ↦ (
        omega (arith, w.count-is, w.if-c-count.false, f.ensures.1),
        omega (arith, w.count-is),
        omega (arith, w.count-is, l.invariant.3),
        omega (arith, w.count-is),
      )
    ]) in (
      omega arith,
      omega (arith, c.loop-o-test.true),
      omega (arith, counts.1, l.invariant.2),
      counts.2,
      omega (arith, counts.3, l.invariant.4),
      length-set l.classes _ _ ∙ l.invariant.5,
      numbered-turn l.o l.count more f.result _ l.classes l.invariant.0
          (omega (arith, l.invariant.5, s.requires.2, c.loop-o-test.true)) f.ensures.0 counts.0 counts.1 l.invariant.6,
    )

pub returns : goal.returns
returns c =
    let s = c in
    let l = c.loop-o in (
      numbered-end s.args.w l.o l.count _ l.classes l.invariant.2 l.invariant.3 (omega (arith, l.invariant.4, l.invariant.1))
          (omega (arith, c.loop-o-test.false)) l.invariant.6,
      l.invariant.6.alone,
    )
