use Rattle.std.specs.Prelude.{◌≡◌, ◌*◌}
use mathlib.Core.Path.{refl}
use native.Mathlib.Nat.{add-zero}
use Rattle.answering.specs.StateSets.{filled_more}
use native.Mathlib.Omega.{arith}
use Rattle.answering.proofs.state_sets.put_row.Goals as goal

pub loop-v-init : goal.loop-v-init
loop-v-init c =
    let a = c.args in
    rw (add-zero (a.ranked.lists * a.r)) c.requires.2

pub loop-v-preserved : goal.loop-v-preserved
loop-v-preserved c =
    filled_more (omega arith) refl (omega arith) c.loop-v.invariant c.put_step.ensures

pub returns : goal.returns
returns c =
    let e : c.loop-v.v ≡ c.args.ranked.lists = omega arith in
    rw e at c.loop-v.invariant
