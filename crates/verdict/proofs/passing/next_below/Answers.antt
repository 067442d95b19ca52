use Rattle.std.proofs.Common.{arith}
use Rattle.std.proofs.lemmas.Grind.{common_steps}
use Rattle.verdict.specs.PassingTurns.{below-turn}
use Rattle.verdict.proofs.passing.next_below.Goals as goal

pub loop-q-preserved : goal.loop-q-preserved
loop-q-preserved c =
    let l = c.loop-q in
    let a = c.args in
    let below = c.row_below.ensures c.if-not-row_below.false in
    below-turn a.states a.lists a.table.now l.q (λ u k. grind (arith, common_steps, below u)) l.invariant
