-- The buffers are measured first; then Find runs in tables of four rows, of six or of 17.
use Rattle.std.specs.Prelude.{Err}
use mathlib.Core.Path.{ap}
use Rattle.finding.specs.Outcome.{told}
use Rattle.finding.specs.Operation.{short-table, short-flags}
use Rattle.finding.proofs.operation.find.Goals as goal
use Rattle.finding.proofs.operation.find.Goals.{then-table-lt4096-via-then-table-lt4096, then-table-lt4096-via-else-table-lt4096+then-marks-lt256}

pub returns-then-table-lt4096 : goal.returns-then-table-lt4096
returns-then-table-lt4096 c =
    let a = c.args in
    let short = ap Err c.from.ensures in
    elim c.then-table-lt4096.branch [
      | then-table-lt4096-via-then-table-lt4096 w ↦ ap told (short-table a.text.now a.table.now a.marks.now _ w.if-table-lt4096.true short)
      | then-table-lt4096-via-else-table-lt4096+then-marks-lt256 w ↦
          ap told (short-flags a.text.now a.table.now a.marks.now _ w.if-marks-lt256.true short)
    ]
