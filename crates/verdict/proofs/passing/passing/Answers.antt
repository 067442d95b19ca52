use Rattle.std.specs.Prelude.{length}
use mathlib.Core.Bool.{false≢true}
use mathlib.Core.Path.{refl, ◌∙◌}
use Rattle.verdict.specs.PassingTurns.{passable, sound-start, closed-passing}
use native.Mathlib.Omega.{arith}
use Rattle.verdict.proofs.passing.passing.Goals as goal

pub returns-then-not-next_below : goal.returns-then-not-next_below
returns-then-not-next_below c = λ e. absurd (false≢true e)

pub onward-requires : goal.onward-requires
onward-requires c =
    let s = c in
    (omega (arith, s.requires.0, s.requires.1), s.requires.2, s.requires.3, s.requires.4)

pub pass_round-requires : goal.pass_round-requires
pass_round-requires c =
    let first = c in
    let s = first in
    let a = s.args in (
      passable a.k a.states a.lists (length a.passes.now) a.accepting.now a.table.now s.requires
          (first.next_below.ensures first.if-not-next_below.false),
      omega (arith, s.requires.5, first.alone.auto.passes),
      sound-start a.k a.states a.lists a.accepting.now a.table.now first.alone.new.passes first.alone.ensures,
    )

pub shape_of-passes-then-onward : goal.shape_of-passes-then-onward
shape_of-passes-then-onward c =
    let last = c in
    last.pass_round.auto.passes ∙ last.alone.auto.passes

pub returns-then-onward : goal.returns-then-onward
returns-then-onward c =
    let last = c in
    let first = last in
    let a = first.args in
    let next = first.next_below.ensures first.if-not-next_below.false in
    let on = last.onward.ensures last.if-onward.true in
    λ e. (
      closed-passing a.k a.states a.lists a.accepting.now a.table.now last.pass_round.new.passes next
          last.pass_round.ensures.sound (last.pass_round.ensures.once on),
      next,
    )

pub loop-round-init : goal.loop-round-init
loop-round-init c =
    let a = c.args in
    let alone = c.alone in
    (refl, sound-start a.k a.states a.lists a.accepting.now a.table.now alone.new.passes alone.ensures)

pub pass_round-requires-in-loop-round : goal.pass_round-requires-in-loop-round
pass_round-requires-in-loop-round c =
    let first = c in
    let s = first in
    let a = s.args in
    let l = c.loop-round in (
      passable a.k a.states a.lists (length a.passes.now) a.accepting.now a.table.now s.requires
          (first.next_below.ensures first.if-not-next_below.false),
      omega (arith, s.requires.5, first.alone.auto.passes, l.invariant.0),
      l.invariant.1,
    )

pub shape_of-passes-then-not-pass_round : goal.shape_of-passes-then-not-pass_round
shape_of-passes-then-not-pass_round c =
    let last = c in
    last.pass_round-in-loop-round.auto.passes ∙ last.loop-round.invariant.0
    ∙ last.alone.auto.passes

pub returns-then-not-pass_round : goal.returns-then-not-pass_round
returns-then-not-pass_round c =
    let first = c in
    let a = first.args in
    let next = first.next_below.ensures first.if-not-next_below.false in
    let pass-round = c.pass_round-in-loop-round in
    λ e. (
      closed-passing a.k a.states a.lists a.accepting.now a.table.now pass-round.new.passes next
          pass-round.ensures.sound (pass-round.ensures.closed c.if-not-pass_round.true),
      next,
    )

pub loop-round-preserved : goal.loop-round-preserved
loop-round-preserved c =
    let last = c in
    (last.pass_round-in-loop-round.auto.passes ∙ last.loop-round.invariant.0, last.pass_round-in-loop-round.ensures.sound)
