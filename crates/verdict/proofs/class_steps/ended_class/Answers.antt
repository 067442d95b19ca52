-- `ended_class` meets its contract: none where the class has no sums, else by sums.
use mathlib.Core.Path.{refl}
use native.Mathlib.Omega.{arith}
use Rattle.verdict.proofs.class_steps.ended_class.Goals as goal

pub returns-then-sums-eq0 : goal.returns-then-sums-eq0
returns-then-sums-eq0 c = record { none = λ e. refl; some = λ h. absurd (omega (arith, c.if-sums-eq0.true)) }

pub ended_of-requires : goal.ended_of-requires
ended_of-requires c = c.requires (omega (arith, c.if-sums-eq0.false))

pub returns : goal.returns
returns c = record { none = λ e. absurd (omega (arith, c.if-sums-eq0.false)); some = λ h. c.ended_of.ensures }
