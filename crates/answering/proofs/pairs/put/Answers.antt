-- `put` meets its contract: the one bit is a shifted one.
use Rattle.std.specs.Prelude.{◌%◌, ◌^◌, ◌<◌, get_or, set}
use mathlib.Core.Path.{ap, ◌∙◌}
use native.Mathlib.Nat.{one-mul}
use lib.Bits.{bit_or}
use lib.Pow.{shl_exact}
use Rattle.answering.specs.Pairs.{place, put}
use native.Mathlib.Omega.{arith}
use Rattle.answering.proofs.pairs.put.Goals as goal

pub returns : goal.returns
unfolding put
returns c =
    let a = c.args in
    let i = place a.words a.y a.s in
    let h : a.s % 64 < 64 = omega arith in
    ap (λ b. set a.pairs.now i (bit_or (get_or a.pairs.now i 0) b))
    (shl_exact {a = 1} 1 (a.s % 64) 64 (omega arith) (omega arith) ∙ one-mul (2 ^ (a.s % 64)))
