-- The flags are written into cleared memory, and the first accepted word is read off them.
use Rattle.finding.specs.FoundTold.{found-told}
use native.Mathlib.Omega.{arith}
use Rattle.finding.proofs.job_rows.found_answer.Goals as goal

pub returns : goal.returns
returns c =
    let a = c.args in
    let s = a.states.now in
    found-told a.standings.now.found a.count a.accepting s.found a.n s.parents s.symbols a.marks.now
    c.flags.new.flags c.accepting_standings-good.result c.first-first.result c.accepting_standings-good.ensures
    c.flags.ensures c.first-first.ensures (omega arith)
