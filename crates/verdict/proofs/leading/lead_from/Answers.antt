use Rattle.std.proofs.Common.{◌-◌, refl, ◌∙◌, length-set, arith, rules}
use lib.Bits.{and_le_r}
use Rattle.places.specs.Followed.{least-small}
use Rattle.verdict.specs.LeadingTurns.{led-start, led-turn, led-end}
use Rattle.verdict.proofs.leading.lead_from.Goals as goal

pub loop-p-init : goal.loop-p-init
loop-p-init c = rw (c.into_iter-p-iterator.ensures.into_iter_gives, c.members-p-items.ensures) (search rules, search rules, omega arith, refl, led-start _ _ _ _)

pub bounds-before-base : goal.bounds-before-base
bounds-before-base c =
    let (some, is, left) = c.in-Some.ensures.steps in
    let l = c.loop-p in
    omega (arith, least-small l.p-iterator.rest some l.invariant.2)

pub bounds-before-base-in-loop-p : goal.bounds-before-base-in-loop-p
bounds-before-base-in-loop-p c =
    let (some, is, left) = c.in-Some.ensures.steps in
    let l = c.loop-p in
    omega (arith, least-small l.p-iterator.rest some l.invariant.2)

pub loop-p-preserved : goal.loop-p-preserved
loop-p-preserved c =
    let (some, is, left) = c.in-Some.ensures.steps in
    let l = c.loop-p in
    let a = c.args in
    rw (is, left) (
      search rules,
      search rules,
      omega (arith, l.invariant.2, and_le_r l.p-iterator.rest (l.p-iterator.rest - 1)),
      length-set l.before _ _ ∙ l.invariant.3,
      led-turn a.base a.o a.set a.before.now l.before l.p-iterator.rest some l.invariant.2 c.requires.1
          (omega (arith, c.requires.0, l.invariant.3)) l.invariant.4,
    )

pub returns : goal.returns
returns c =
    let l = c.loop-p in
    let a = c.args in
    led-end a.base a.o a.set a.before.now l.before l.p-iterator.rest c.in-None.ensures.steps.0 l.invariant.4
