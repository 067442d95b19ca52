-- Each test that fails shows that there are too many places.
use Rattle.std.specs.Prelude.{suc, ◌≤◌}
use Rattle.verdict.specs.Tables.{occupied}
use native.Mathlib.Nat.{mul-le-mul}
use Rattle.verdict.specs.TablesLaws.{occupied-few}
use Rattle.verdict.specs.Placing.{placed-not, placed-few, many-states, many-places}
use native.Mathlib.Omega.{arith}
use Rattle.verdict.proofs.verdict.placed.Goals as goal

pub returns-in_err-w : goal.returns-in_err-w
returns-in_err-w c =
    rw c.from_residual.ensures (
    record { told = placed-not _ _ _ _ (λ k m. absurd (omega (arith, c.in_err-w.ensures.told.complete k))); some = tt }
    )

pub returns-then-most-gt1024-clause-told : goal.returns-then-most-gt1024-clause-told
returns-then-most-gt1024-clause-told c = placed-not _ _ _ _ (λ k m. absurd (omega (arith, c.if-most-gt1024.true)))

pub returns-then-states-most-clause-told : goal.returns-then-states-most-clause-told
returns-then-states-most-clause-told c = let s = c in placed-not _ _ _ _ (λ k m. many-states s.args.states s.args.lists s.args.sizes.now s.args.most c.if-states-most.true (suc (occupied s.args.sizes.now 0 s.args.lists)) (omega arith))

pub overflow_mul-states : goal.overflow_mul-states
overflow_mul-states c =
    let n = c.args.lists in
    let t = c.in_ok-w.ensures.told in
    let k = c.in_ok-w.ensures.some in
    let h : c.in_ok-w.w ≤ 1009 = omega (arith, t.exact k, (t.counted k).few, occupied-few _ n 0 n (omega arith) (t.counted k)) in
    let s : c.args.states ≤ 1024 = omega (arith, c.if-most-gt1024.false, c.if-states-most.false) in
    omega (arith, mul-le-mul s h)

pub returns-then-states-w-clause-told : goal.returns-then-states-w-clause-told
returns-then-states-w-clause-told c = placed-not _ _ _ _ (λ k m. many-places _ _ _ _ c.in_ok-w.w c.in_ok-w.ensures.told k c.if-states-w.true)

pub returns-clause-told : goal.returns-clause-told
returns-clause-told c = placed-few _ _ _ _ c.in_ok-w.w c.in_ok-w.ensures.told c.in_ok-w.ensures.some c.if-most-gt1024.false c.if-states-w.false
