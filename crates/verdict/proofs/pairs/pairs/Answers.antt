-- Nothing is promised where the limits do not hold; else the sweep tells it.
use Rattle.verdict.specs.PairRows.{pairs-none, pairs-unfit}
use native.Mathlib.Omega.{arith}
use Rattle.verdict.proofs.pairs.pairs.Goals as goal

pub returns-then-limit-eq0 : goal.returns-then-limit-eq0
returns-then-limit-eq0 c = pairs-none _ _ _ _ c.if-limit-eq0.true

pub returns-then-limit-gt4096 : goal.returns-then-limit-gt4096
returns-then-limit-gt4096 c = pairs-unfit _ _ _ _ (λ p few room. omega (arith, c.if-limit-gt4096.true))

pub returns-then-tables-gt-MOST_LABELS : goal.returns-then-tables-gt-MOST_LABELS
returns-then-tables-gt-MOST_LABELS c = pairs-unfit _ _ _ _ (λ p few room. omega (arith, c.if-tables-gt-MOST_LABELS.true, p.few-labels))

pub returns-then-workspace-limit : goal.returns-then-workspace-limit
returns-then-workspace-limit c = pairs-unfit _ _ _ _ (λ p few room. omega (arith, c.if-workspace-limit.true))

pub sweep-requires : goal.sweep-requires
sweep-requires c =
    let s = c in (
      omega (arith, c.if-limit-eq0.false),
      omega (arith, c.if-limit-gt4096.false),
      omega (arith, c.if-tables-gt-MOST_LABELS.false),
      omega (arith, c.if-workspace-limit.false),
      s.requires.0,
      s.requires.1,
      s.requires.2,
      s.requires.3,
    )
