-- `states_below` meets its contract: the states below n are those of a shifted one, less one.
use Rattle.std.specs.Prelude.{◌≡◌, ◌-◌, ◌^◌}
use mathlib.Core.Path.{refl, ap, ◌∙◌}
use native.Mathlib.Nat.{one-mul}
use lib.Pow.{shl_exact, pow_pos}
use native.Mathlib.Omega.{arith}
use Rattle.answering.proofs.word_search.states_below.Goals as goal

pub returns-then-n-eq64 : goal.returns-then-n-eq64
returns-then-n-eq64 c = let e : c.args.n ≡ 64 = c.if-n-eq64.true in rw e refl

pub overflow_sub-result : goal.overflow_sub-result
overflow_sub-result c =
    let n = c.args.n in
    omega (arith, shl_exact {a = 1} 1 n 64 (omega arith) (omega arith), pow_pos n)

pub returns : goal.returns
returns c =
    let n = c.args.n in
    ap (λ z. z - 1) (shl_exact {a = 1} 1 n 64 (omega arith) (omega arith) ∙ one-mul (2 ^ n))
