-- `few_rows` meets its contract: the tests come one after the other.
use Rattle.std.specs.Prelude.{◌*◌, ◌≤◌, length}
use mathlib.Core.Bool.{false≢true}
use native.Mathlib.Nat.{mul-le-mul}
use borrow.Author.Tests.{leb-true}
use native.Mathlib.Omega.{arith}
use Rattle.answering.proofs.place_rows.few_rows.Goals as goal

pub returns-then-labels-gt32 : goal.returns-then-labels-gt32
returns-then-labels-gt32 c e = absurd (false≢true e)

pub returns-then-not-few_places : goal.returns-then-not-few_places
returns-then-not-few_places c e = absurd (false≢true e)

pub overflow_mul-result : goal.overflow_mul-result
overflow_mul-result c =
    let a = c.args in
    let f = c.few_places.ensures c.if-not-few_places.false in
    let m : a.labels * length a.follow.now ≤ 32 * 6 = mul-le-mul {n₂ = 32} {m₂ = 6} (omega arith) f.few in
    omega (arith, m)

pub returns : goal.returns
returns c e =
    (c.few_places.ensures c.if-not-few_places.false, leb-true _ _ e)
