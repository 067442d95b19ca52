-- The label cuts what can come next to the standing that it leads to.
use mathlib.Core.Path.{ap, ◌∙◌}
use Rattle.std.specs.Prelude.{get_or}
use Rattle.theory.specs.Places.{intersection}
use Rattle.verdict.specs.TablesLaws.{query-step}
use Rattle.verdict.proofs.pairs.query_step.Goals as goal

pub returns : goal.returns
returns c =
    let s = c in
    λ follow sizes standing next.
    record {
      told = λ size room rows label some accepting.
          ap (λ z. intersection z (get_or s.args.enter.now s.args.a 0)) (next.told size room some)
          ∙ query-step follow s.args.enter.now sizes accepting standing s.args.a label;
    }
