use Rattle.std.specs.Prelude.{◌≡◌, ◌-◌}
use mathlib.Core.Path.{refl, ◌∙◌, subst}
use Rattle.verdict.specs.PassingTurns.{ClosedFrom, closed-turn, once-turn}
use native.Mathlib.Omega.{arith}
use Rattle.std.proofs.lemmas.Bool.{or_parts}
use Rattle.verdict.proofs.passing.pass_round.Goals as goal

pub loop-t-init : goal.loop-t-init
loop-t-init c = (refl, c.requires.2, λ e q y h l. absurd (omega arith), λ e q y h l. absurd (omega arith))

pub gather-changed-requires : goal.gather-changed-requires
gather-changed-requires c =
    let s = c in
    let l = c.loop-t in
    (s.requires.0, omega (arith, c.loop-t-test.true), omega (arith, s.requires.1, l.invariant.0))

pub loop-t-preserved : goal.loop-t-preserved
loop-t-preserved c =
    let a = c.args in
    let l = c.loop-t in
    let some = c.loop-t-test.true in
    let gather = c.gather-changed in (
      gather.auto.passes ∙ l.invariant.0,
      gather.ensures.sound l.invariant.1,
      closed-turn a.k a.states a.lists a.accepting.now a.table.now l.passes _ (l.t - 1) l.t l.changed
          gather.result _ (omega (arith, some)) (λ e. or_parts _ _ e) gather.ensures l.invariant.2,
      once-turn a.k a.states a.lists a.accepting.now a.table.now l.passes _ (l.t - 1) l.t gather.result
          (omega (arith, some)) gather.ensures l.invariant.3,
    )

pub shape_of-passes : goal.shape_of-passes
shape_of-passes c = c.loop-t.invariant.0

pub returns : goal.returns
returns c =
    let a = c.args in
    let l = c.loop-t in
    let z : l.t ≡ 0 = omega (arith, c.loop-t-test.false) in
    let Closed = ClosedFrom a.k a.states a.lists a.accepting.now a.table.now l.passes in
    record { sound = l.invariant.1; closed = λ e. subst Closed z (l.invariant.2 e); once = λ on. subst Closed z (l.invariant.3 on) }
