-- Classes that are stable, with the labels that enter each, are what a step needs (stable-classes).
use mathlib.Core.Bool.{false≢true}
use Rattle.verdict.specs.StableTurns.{stable-classes}
use native.Mathlib.Omega.{arith}
use borrow.Author.Rules.{rules}
use Rattle.verdict.proofs.stable.merge.Goals as goal

pub stable-requires : goal.stable-requires
stable-requires c =
    let s = c in (
      s.requires.0,
      s.requires.3,
      s.requires.4,
      omega (arith, s.requires.5, c.kinds_of.auto.kinds),
      s.requires.7,
      s.requires.6,
      omega (arith, s.requires.9),
      search rules,
    )

pub returns-then-not-stable : goal.returns-then-not-stable
returns-then-not-stable c = λ e. absurd (false≢true e)

pub enter_classes-requires : goal.enter_classes-requires
enter_classes-requires c =
    let s = c in
    (s.requires.6.some, s.requires.6.few, omega (arith, s.requires.9, c.stable.auto.merged))

pub returns : goal.returns
returns c =
    let s = c in
    let f = c.stable in
    let e = c.enter_classes in
    λ t. stable-classes s.args.lists s.args.labels s.args.k s.args.enter.now s.args.sizes.now s.args.before.now
    c.kinds_of.new.kinds s.args.classes.now f.new.merged f.new.entering
    e.new.merged s.requires.1 s.requires.8 s.requires.0 s.requires.4 s.requires.6 c.kinds_of.ensures
    (f.ensures c.if-not-stable.false) e.ensures
