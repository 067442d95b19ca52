-- None where there is room for no state; else the sweep tells it.
use mathlib.Core.Path.{refl}
use native.Mathlib.Omega.{arith}
use Rattle.finding.specs.StatesTold.{states-told, states-none}
use Rattle.finding.proofs.states.States.explore.Goals as goal
use Rattle.finding.proofs.states.States.explore.Goals.{then-limit-eq0-via-then-limit-eq0, then-limit-eq0-via-else-limit-eq0+then-limit-gt256, then-limit-eq0-via-else-limit-eq0+else-limit-gt256+then-table-lt4096}

pub returns-then-limit-eq0 : goal.returns-then-limit-eq0
returns-then-limit-eq0 c =
    let a = c.args in
    let s = a.self.now in
    elim c.then-limit-eq0.branch [
      | then-limit-eq0-via-then-limit-eq0 w ↦ λ h k.
          states-none a.images.rows.now a.images.standings a.images.lists a.limit a.table.now s.found s.parents s.symbols a.table.now
          refl w.if-limit-eq0.true
      | then-limit-eq0-via-else-limit-eq0+then-limit-gt256 w ↦ λ h k. absurd (omega arith)
      | then-limit-eq0-via-else-limit-eq0+else-limit-gt256+then-table-lt4096 w ↦ λ h k. absurd (omega arith)
    ]

pub returns-in_err-n : goal.returns-in_err-n
returns-in_err-n c =
    let a = c.args in
    let e = c.sweep in
    let s = e.new.self in
    λ h k.
    rw (c.from_residual.ensures, ← c.in_err-n.was)
    (states-told a.images.rows.now a.images.standings a.images.lists a.limit a.table.now s.found s.parents s.symbols e.new.table
    e.result e.ensures)

pub returns : goal.returns
returns c =
    let a = c.args in
    let e = c.sweep in
    let s = e.new.self in
    λ h k.
    rw (← c.in_ok-n.was)
    (states-told a.images.rows.now a.images.standings a.images.lists a.limit a.table.now s.found s.parents s.symbols e.new.table
    e.result e.ensures)
