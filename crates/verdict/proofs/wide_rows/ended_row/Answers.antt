use Rattle.std.specs.Prelude.{◌≡◌, ℕ, ◌+◌, ◌↔◌}
use mathlib.Core.Path.{sym, subst}
use Rattle.theory.specs.Places.{Member}
use Rattle.verdict.specs.WideRows.{Has, Ends}
use Rattle.verdict.specs.WideRowsTurns.{ends-start, ends_some, ends-none}
use native.Mathlib.Omega.{arith}
use Rattle.verdict.proofs.wide_rows.ended_row.Goals as goal
use Rattle.verdict.proofs.wide_rows.ended_row.Goals.{else-low-rows-ne0, then-low-rows-ne0}

pub loop-v-init : goal.loop-v-init
loop-v-init c = λ t. ends-start c.args.rows.now c.args.ended.now c.args.q c.args.low c.args.high t

pub loop-v-preserved : goal.loop-v-preserved
loop-v-preserved c =
    let s = c in
    let test = c.loop-v-test in
    let a = s.args in
    let l = c.loop-v in
    let Reached : ℕ → Type 0 =
    λ z. (t : ℕ) → Member t z ↔ Ends (l.v + 1) a.rows.now a.ended.now a.q (Has a.low a.high) t in
    (elim c.if-low-rows-ne0.branch [
      | then-low-rows-ne0 w ↦ subst Reached (sym w.alone-is)
          (ends_some a.rows.now a.ended.now a.q a.low a.high l.alone l.v (omega arith) (omega arith) w.if-low-rows-ne0.true
          l.invariant)
      | else-low-rows-ne0 w ↦ subst Reached (sym w.alone-is)
          (ends-none a.rows.now a.ended.now a.q a.low a.high l.alone l.v w.if-low-rows-ne0.false l.invariant)
    ])

pub returns : goal.returns
returns c =
    let a = c.args in
    let l = c.loop-v in
    let e : l.v ≡ a.lists = omega (arith, c.loop-v-test.false) in
    λ t. subst (λ z. Member t l.alone ↔ Ends z a.rows.now a.ended.now a.q (Has a.low a.high) t) e (l.invariant t)
