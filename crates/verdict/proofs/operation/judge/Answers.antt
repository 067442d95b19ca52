-- `judge` meets its contract: the allowance and the lent buffers are checked before the text is read.
use Rattle.verdict.specs.VerdictOperationLaws.{none_allowed, many-allowed, table-short, flags-short, path-short, workspace-short}
use Rattle.verdict.specs.VerdictOperationLaws.{text-judged}
use native.Mathlib.Omega.{arith}
use Rattle.verdict.proofs.operation.judge.Goals as goal

pub returns-then-allowance-eq0 : goal.returns-then-allowance-eq0
returns-then-allowance-eq0 c =
    let a = c.args in
    rw c.from.ensures (
    none_allowed a.text.now a.allowance a.table.now a.flags.now a.path.now a.workspace.now
    c.if-allowance-eq0.true
    )

pub returns-then-allowance-gt4096 : goal.returns-then-allowance-gt4096
returns-then-allowance-gt4096 c =
    let a = c.args in
    rw c.from-then-allowance-gt4096.ensures (
    many-allowed a.text.now a.allowance a.table.now a.flags.now a.path.now a.workspace.now
    (omega arith) (omega arith)
    )

pub returns-then-table-lt4096 : goal.returns-then-table-lt4096
returns-then-table-lt4096 c =
    let a = c.args in
    rw c.from-then-table-lt4096.ensures (
    table-short a.text.now a.allowance a.table.now a.flags.now a.path.now a.workspace.now
    (omega arith) (omega arith) (omega arith)
    )

pub returns-then-flags-lt256 : goal.returns-then-flags-lt256
returns-then-flags-lt256 c =
    let a = c.args in
    rw c.from-then-flags-lt256.ensures (
    flags-short a.text.now a.allowance a.table.now a.flags.now a.path.now a.workspace.now
    (omega arith) (omega arith) (omega arith) (omega arith)
    )

pub returns-then-path-allowance : goal.returns-then-path-allowance
returns-then-path-allowance c =
    let a = c.args in
    rw c.from-then-path-allowance.ensures (
    path-short a.text.now a.allowance a.table.now a.flags.now a.path.now a.workspace.now
    (omega arith) (omega arith) (omega arith) (omega arith) (omega arith)
    )

pub returns-then-workspace-allowance : goal.returns-then-workspace-allowance
returns-then-workspace-allowance c =
    let a = c.args in
    rw c.from-then-workspace-allowance.ensures (
    workspace-short a.text.now a.allowance a.table.now a.flags.now a.path.now a.workspace.now
    (omega arith) (omega arith) (omega arith) (omega arith) (omega arith) (omega arith)
    )

pub returns : goal.returns
returns c =
    let at-read-verdict = c in
    let at-if6 = at-read-verdict in
    let a = at-if6.args in
    text-judged a.text.now a.allowance a.table.now a.flags.now a.path.now a.workspace.now (omega (arith, at-if6))
    (record {
      few = omega (arith, at-if6);
      table-room = omega (arith, at-if6);
      flags-room = omega (arith, at-if6);
      path_room = omega (arith, at-if6);
      room = omega (arith, at-if6);
    }) at-read-verdict.read_verdict.ensures
