-- The two cases of the definition.
use Rattle.std.specs.Prelude.{◌≡◌, ℕ, zero, suc, ◌<◌}
use mathlib.Core.Path.{refl}
use Rattle.verdict.specs.Missing.{gap}
use native.Mathlib.Omega.{arith}
use Rattle.verdict.proofs.verdict.gap.Goals as goal

gap-turned : (c w : ℕ) → 0 < c → 1 ≡ gap c w
gap-turned zero w h = absurd (omega arith)
gap-turned (suc c) w h = refl

gap-plain : (c w : ℕ) → c ≡ 0 → w ≡ gap c w
gap-plain zero w h = refl
gap-plain (suc c) w h = absurd (omega arith)

pub returns-then-turned-eq0 : goal.returns-then-turned-eq0
returns-then-turned-eq0 c = gap-plain c.args.turned c.args.w c.if-turned-eq0.true

pub returns-else-turned-eq0 : goal.returns-else-turned-eq0
returns-else-turned-eq0 c = gap-turned c.args.turned c.args.w (omega (arith, c.if-turned-eq0.false))
