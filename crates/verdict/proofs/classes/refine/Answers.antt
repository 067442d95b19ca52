use Rattle.std.specs.Prelude.{ℕ}
use mathlib.Core.Path.{refl, ◌∙◌, subst}
use Rattle.verdict.specs.Classes.{Numbered}
use native.Mathlib.Omega.{arith}
use Rattle.verdict.proofs.classes.refine.Goals as goal

pub kinds_of-requires : goal.kinds_of-requires
kinds_of-requires c =
    let s = c in
    (s.requires.0, s.requires.1, s.requires.3, omega (arith, s.requires.6, s.requires.7))

pub depths-requires : goal.depths-requires
depths-requires c =
    let s = c in
    (s.requires.0, s.requires.2, omega (arith, s.requires.6, s.requires.7, c.kinds_of.auto.kinds))

pub number-requires : goal.number-requires
number-requires c =
    let s = c in (
      omega (arith, s.requires.6),
      omega (arith, s.requires.7, c.kinds_of.auto.kinds, c.depths.auto.keys),
      s.requires.8,
    )

pub loop-round-init : goal.loop-round-init
loop-round-init c = (c.in_ok-count.ensures.0, refl, refl, refl)

pub next_keys-requires : goal.next_keys-requires
next_keys-requires c =
    let s = c in
    let l = c.loop-round in (
      s.requires.0,
      s.requires.4,
      s.requires.5,
      omega (arith, l.invariant.3, c.number.auto.classes, s.requires.6, s.requires.8),
      omega (arith, l.invariant.2, c.depths.auto.keys, c.kinds_of.auto.kinds, s.requires.6, s.requires.7),
    )

pub number-requires-in-loop-round : goal.number-requires-in-loop-round
number-requires-in-loop-round c =
    let s = c in
    let l = c.loop-round in (
      omega (arith, s.requires.6),
      omega (
        arith,
        c.next_keys.auto.keys,
        l.invariant.2,
        c.depths.auto.keys,
        c.kinds_of.auto.kinds,
        s.requires.7,
      ),
      omega (arith, l.invariant.3, c.number.auto.classes, s.requires.8),
    )

pub returns-then-more-count : goal.returns-then-more-count
returns-then-more-count c =
    let s = c in
    let f = c.in_ok-more.ensures in (
      subst (λ (z : ℕ). Numbered s.args.w z c.number-in-loop-round.new.classes) c.if-more-count.true f.0,
      f.1 ∙ c.loop-round.invariant.1 ∙ c.in_ok-count.ensures.1,
    )

pub loop-round-preserved : goal.loop-round-preserved
loop-round-preserved c =
    let l = c.loop-round in
    let f = c.in_ok-more.ensures in (
      f.0,
      f.1 ∙ l.invariant.1,
      c.next_keys.auto.keys ∙ l.invariant.2,
      c.number-in-loop-round.auto.classes ∙ l.invariant.3,
    )

pub returns : goal.returns
returns c = (tt, c.loop-round.invariant.1 ∙ c.in_ok-count.ensures.1)
