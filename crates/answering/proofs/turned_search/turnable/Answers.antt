-- `turnable` meets its contract: the tests come one after the other.
use Rattle.std.specs.Prelude.{◌*◌, ◌≤◌}
use mathlib.Core.Bool.{false≢true}
use native.Mathlib.Nat.{mul-le-mul}
use Rattle.answering.specs.TurnedTest.{turnable-told}
use Rattle.std.proofs.Common.{arith}
use Rattle.std.proofs.lemmas.Grind.{common_steps}
use Rattle.answering.proofs.turned_search.turnable.Goals as goal

pub returns-then-sizes-eq0 : goal.returns-then-sizes-eq0
returns-then-sizes-eq0 c e = absurd (false≢true e)

pub returns-then-sizes-gt16 : goal.returns-then-sizes-gt16
returns-then-sizes-gt16 c e = absurd (false≢true e)

pub returns-then-sizes-gt256 : goal.returns-then-sizes-gt256
returns-then-sizes-gt256 c e = absurd (false≢true e)

pub overflow_mul-sizes : goal.overflow_mul-sizes
overflow_mul-sizes c =
    let z = c.args.sizes in
    let m : z.symbols * z.recordings ≤ 32 * 256 = mul-le-mul {n₂ = 32} {m₂ = 256} c.requires.0 (omega arith) in
    omega (arith, m)

pub returns-then-sizes-gt768 : goal.returns-then-sizes-gt768
returns-then-sizes-gt768 c e = absurd (false≢true e)

pub returns : goal.returns
returns c e =
    let p = c.requires in
    (turnable-told (omega arith) (omega arith) p.0 p.1 (λ i h. grind (arith, common_steps, c.sets_within.ensures e i)), omega arith, omega arith)
