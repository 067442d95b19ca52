-- Each test that fails refutes what it tests; where all hold, the tables are ready.
use Rattle.std.specs.Prelude.{◌*◌, ◌≤◌}
use mathlib.Core.Path.{sym, ap, ◌∙◌}
use native.Mathlib.Nat.{mul-le-mul}
use Rattle.verdict.specs.TablesLaws.{occupied-few}
use Rattle.verdict.specs.CoverBounds.{few-states}
use Rattle.verdict.specs.CoverStepped.{not-ready}
use native.Mathlib.Omega.{arith}
use Rattle.verdict.proofs.cover.ready.Goals as goal

pub returns-in_err-w : goal.returns-in_err-w
returns-in_err-w c =
    rw c.from_residual.ensures (
    record { told = not-ready _ _ _ _ _ _ _ (λ w r. omega (arith, c.in_err-w.ensures.told.complete r.counted)); some = tt }
    )

pub overflow_mul-tables : goal.overflow_mul-tables
overflow_mul-tables c = omega (arith, (c.in_ok-w.ensures.told.counted c.in_ok-w.ensures.some).few)

pub overflow_add-tables : goal.overflow_add-tables
overflow_add-tables c = omega (arith, (c.in_ok-w.ensures.told.counted c.in_ok-w.ensures.some).few)

pub returns-then-tables-clause-told : goal.returns-then-tables-clause-told
returns-then-tables-clause-told c = not-ready _ _ _ _ _ _ _ (λ w r. omega (arith, r.follow-room, c.if-tables.true))

pub returns-then-tables-2-clause-told : goal.returns-then-tables-2-clause-told
returns-then-tables-2-clause-told c = not-ready _ _ _ _ _ _ _ (λ w r. omega (arith, r.enter-room, c.if-tables-2.true))

pub returns-then-tables-3-clause-told : goal.returns-then-tables-3-clause-told
returns-then-tables-3-clause-told c = not-ready _ _ _ _ _ _ _ (λ w r. omega (arith, r.accepting-room, c.if-tables-3.true))

pub returns-then-tables-gt1024-clause-told : goal.returns-then-tables-gt1024-clause-told
returns-then-tables-gt1024-clause-told c = not-ready _ _ _ _ _ _ _ (λ w r. omega (arith, few-states _ w (omega (arith, r.wide)) r.few-places, c.if-tables-gt1024.true))

pub returns-then-tables-4-clause-told : goal.returns-then-tables-4-clause-told
returns-then-tables-4-clause-told c = not-ready _ _ _ _ _ _ _ (λ w r. omega (arith, r.table-room, c.if-tables-4.true))

pub overflow_mul-tables-4 : goal.overflow_mul-tables-4
overflow_mul-tables-4 c =
    let n = c.args.tables.lists in
    let t = c.in_ok-w.ensures.told in
    let k = c.in_ok-w.ensures.some in
    let h : c.in_ok-w.w ≤ 1009 = omega (arith, t.exact k, (t.counted k).few, occupied-few _ n 0 n (omega arith) (t.counted k)) in
    omega (arith, mul-le-mul c.if-tables-gt1024.false h)

pub returns-then-tables-w-gt1024-clause-told : goal.returns-then-tables-w-gt1024-clause-told
returns-then-tables-w-gt1024-clause-told c =
    not-ready _ _ _ _ _ _ _ (λ w r. omega (arith, c.if-tables-w-gt1024.true, r.few-places, ap (λ z. c.args.tables.states * z) (c.in_ok-w.ensures.told.complete r.counted ∙ sym r.wide)))

pub returns-clause-told : goal.returns-clause-told
returns-clause-told c =
    let t = c.in_ok-w.ensures.told in
    let k = c.in_ok-w.ensures.some in
    record {
      ready = λ h. record {
        counted = t.counted k;
        follow-room = c.if-tables.false;
        enter-room = c.if-tables-2.false;
        accepting-room = c.if-tables-3.false;
        table-room = c.if-tables-4.false;
        wide = t.exact k;
        few-places = c.if-tables-w-gt1024.false;
      };
      complete = λ w r. t.complete r.counted ∙ sym r.wide;
    }
