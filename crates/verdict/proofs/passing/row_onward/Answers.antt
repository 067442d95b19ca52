use Rattle.std.specs.Prelude.{ℕ, ◌+◌, ◌*◌, ◌≤◌, get_or}
use mathlib.Core.Bool.{false≢true}
use borrow.Author.Count.{below_more}
use Rattle.theory.specs.Places.{Member}
use Rattle.verdict.specs.WordBits.{first-none}
use native.Mathlib.Omega.{arith}
use Rattle.verdict.proofs.passing.row_onward.Goals as goal
use Rattle.verdict.proofs.passing.row_onward.Goals.{else-accepting-v-eq1-via-then-accepting-v-eq1+else-table-q}
use Rattle.verdict.proofs.passing.row_onward.Goals.{else-accepting-v-eq1-via-else-accepting-v-eq1}

pub loop-v-init : goal.loop-v-init
loop-v-init c = λ u h. absurd (omega arith)

pub returns-then-table-q : goal.returns-then-table-q
returns-then-table-q c = λ e. absurd (false≢true e)

pub loop-v-preserved : goal.loop-v-preserved
loop-v-preserved c =
    let l = c.loop-v in
    let a = c.args in
    let Here : ℕ → Type 0 = λ u. Member 0 (get_or a.accepting.now (u + 1) 0) → a.q ≤ get_or a.table.now (16 * a.q + u) 0 in
    below_more Here l.v l.invariant
    (elim c.else-accepting-v-eq1.branch [
      | else-accepting-v-eq1-via-then-accepting-v-eq1+else-table-q w ↦ λ m. w.if-table-q.false
      | else-accepting-v-eq1-via-else-accepting-v-eq1 w ↦ λ m. absurd (first-none _ w.if-accepting-v-eq1.false m)
    ])

pub returns : goal.returns
returns c =
    let l = c.loop-v in
    λ e u h. l.invariant u (omega arith)
