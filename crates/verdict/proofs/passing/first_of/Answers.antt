use Rattle.std.proofs.Common.{arith, rules}
use Rattle.std.proofs.lemmas.Grind.{common_steps}
use Rattle.verdict.specs.FinishingTurns.{first-copied}
use Rattle.verdict.proofs.passing.first_of.Goals as goal

pub returns : goal.returns
returns c = λ t.
    first-copied c.args.k c.args.passes.now _ (λ i. search rules) (λ i h. grind (arith, common_steps)) (λ i h. grind (arith, common_steps)) t
