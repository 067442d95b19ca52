-- `below` meets its contract: a word has no place from 64 on, and a mask has the places below n.
use Rattle.std.specs.Prelude.{◌-◌, ◌^◌}
use mathlib.Core.Path.{sym, ap, ◌∙◌}
use native.Mathlib.Nat.{one-mul, mod-eq_of_lt}
use native.Mathlib.Omega.{arith}
use lib.Bits.{bit_and, and_mask}
use lib.Pow.{shl_exact, pow_pos}
use Rattle.theory.specs.PlacesLaws.{wider}
use Rattle.finding.proofs.step.below.Goals as goal

pub returns-then-n-ge64 : goal.returns-then-n-ge64
returns-then-n-ge64 c =
    let a = c.args in
    sym (mod-eq_of_lt (wider 64 a.n a.standing c.if-n-ge64.true (omega arith)))

pub overflow_sub-result : goal.overflow_sub-result
overflow_sub-result c =
    let n = c.args.n in
    omega (arith, shl_exact {a = 1} 1 n 64 (omega arith) (omega arith), pow_pos n)

pub returns : goal.returns
returns c =
    let n = c.args.n in
    ap (λ z. bit_and c.args.standing (z - 1)) (shl_exact {a = 1} 1 n 64 (omega arith) (omega arith) ∙ one-mul (2 ^ n))
    ∙ and_mask c.args.standing n
