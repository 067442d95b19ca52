-- As many words as the places need.
use mathlib.Core.Path.{refl}
use native.Mathlib.Omega.{arith}
use Rattle.verdict.proofs.next_cover.used_words.Goals as goal

pub overflow_mul-result : goal.overflow_mul-result
overflow_mul-result c = omega (arith, c.requires (omega (arith, c.if-w-eq0.false)))

pub overflow_add-result : goal.overflow_add-result
overflow_add-result c = omega (arith, c.requires (omega (arith, c.if-w-eq0.false)))

pub returns-then-w-eq0 : goal.returns-then-w-eq0
returns-then-w-eq0 c =
    record { within = omega arith; plain = λ e. refl; turned = λ h. absurd (omega (arith, c.if-w-eq0.true)) }

pub returns-else-w-eq0 : goal.returns-else-w-eq0
returns-else-w-eq0 c =
    let few = c.requires (omega (arith, c.if-w-eq0.false)) in
    record { within = omega (arith, few); plain = λ e. absurd (omega (arith, c.if-w-eq0.false)); turned = λ h. omega (arith, few) }
