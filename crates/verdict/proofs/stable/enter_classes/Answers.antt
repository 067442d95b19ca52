use Rattle.std.proofs.Common.{rules, length-drop, length-take, drop}
use mathlib.Core.Path.{refl, ◌∙◌}
use Rattle.verdict.specs.StableTurns.{none-entered, enter-start, enter-turn, enter-end}
use native.Mathlib.Omega.{arith}
use Rattle.verdict.proofs.stable.enter_classes.Goals as goal

pub loop-c-init : goal.loop-c-init
loop-c-init c =
    (omega arith, omega (arith, c.requires.0), refl, enter-start _ _ _ (none-entered c.args.merged.now c.fill.new.self _ (omega arith) (omega (arith, c.fill.ensures.len, length-take 64 (drop 64 c.args.merged.now), length-drop 64 c.args.merged.now)) (λ i h. search rules)))

pub loop-c-preserved : goal.loop-c-preserved
loop-c-preserved c =
    let s = c in
    let l = c.loop-c in
    let f = c.lead_from in (
      omega arith,
      omega (arith, c.loop-c-test.true),
      f.auto.before ∙ l.invariant.2,
      enter-turn l.c s.args.entering.now _ l.merged f.new.before l.invariant.0 f.ensures l.invariant.3,
    )

pub returns : goal.returns
returns c =
    let s = c in
    let l = c.loop-c in
    enter-end s.args.k l.c s.args.entering.now s.args.merged.now _ l.merged
    (omega (arith, l.invariant.1, c.loop-c-test.false)) (none-entered s.args.merged.now c.fill.new.self _ (omega arith) (omega (arith, c.fill.ensures.len, length-take 64 (drop 64 c.args.merged.now), length-drop 64 s.args.merged.now)) (λ i h. search rules)) l.invariant.3
