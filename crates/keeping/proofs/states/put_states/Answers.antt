use Rattle.std.proofs.Common.{ℕ, ◌≡◌, [], ◌∷◌, ap, arith}
use Rattle.output.specs.Writer.{puts_nothing, puts_both, puts_same}
use Rattle.keeping.specs.Kept.{kept_states}
use Rattle.keeping.specs.Write.{lent}
use Rattle.keeping.specs.KeptLaws.{states-more}
use Rattle.keeping.proofs.states.put_states.Goals as goal

pub loop-state-init : goal.loop-state-init
unfolding kept_states
loop-state-init c = puts_nothing c.args.w.now

pub loop-state-preserved : goal.loop-state-preserved
loop-state-preserved c =
    let a = c.args in
    let l = c.loop-state in
    let flagged = puts_same (ap (λ (b : ℕ). b ∷ []) c.flag.ensures) c.put.ensures in
    puts_same (states-more (lent a.states a.table.now a.flags.now) a.lists l.state) (puts_both l.invariant (puts_both flagged c.put_nexts.ensures))

pub returns : goal.returns
returns c =
    let a = c.args in
    let e : c.loop-state.state ≡ a.states = omega arith in
    puts_same (ap (λ n. kept_states (lent a.states a.table.now a.flags.now) a.lists n 0) e) c.loop-state.invariant
