use Rattle.std.specs.Prelude.{◌≡◌, ◌++◌, map, get_or, take, drop, set}
use native.Mathlib.Omega.{arith}
use mathlib.Core.Path.{ap, ap₂, ◌∙◌}
use lib.ListN.{length-set}
use Rattle.finding.specs.States.{state_accepts}
use Rattle.finding.specs.Find.{flag}
use Rattle.finding.specs.Filling.{map_more}
use Rattle.finding.proofs.flags.flags.Goals as goal

pub loop-i-preserved : goal.loop-i-preserved
loop-i-preserved c =
    let a = c.args in
    let l = c.loop-i in
    let e : c.flag.result ≡ flag (state_accepts a.accepting (get_or a.states.now l.i 0)) =
    c.flag.ensures ∙ ap flag c.state_accepts.ensures in (
      l.invariant.0,
      l.invariant.1,
      simp length-set l.invariant.2,
      ap₂ (λ t v. set t l.i v) l.invariant.3 e
          ∙ map_more (λ X. flag (state_accepts a.accepting X)) a.states.now a.flags.now l.i (omega arith) (omega arith),
    )

pub returns : goal.returns
returns c =
    let a = c.args in
    let e : c.loop-i.i ≡ a.count = omega arith in
    λ h k.
    c.loop-i.invariant.3
    ∙ ap (λ n. map (λ X. flag (state_accepts a.accepting X)) (take n a.states.now) ++ drop n a.flags.now) e
