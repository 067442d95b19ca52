-- The query has too many standings, or the states tell it.
use Rattle.std.specs.Prelude.{Err}
use mathlib.Core.Path.{ap}
use borrow.Author.Rules.{rules}
use native.Mathlib.Omega.{arith}
use Rattle.finding.specs.CoreTold.{core-over, core_all}
use Rattle.finding.specs.RowsHeld.{rows-room}
use Rattle.finding.proofs.job_rows.explore_rows.Goals as goal

pub find_states-requires : goal.find_states-requires
find_states-requires c =
    let w = rw c.in-Some.is at c.query_standings.ensures.within in
    omega (arith, w, c.requires.standings)

pub returns : goal.returns
returns c =
    let a = c.args in
    let job = a.job in
    let q = c.query_standings in
    let s = c.find_states in
    core_all job.follow.now job.enter.now job.sizes.now job.accepting.now job.labels job.lists a.most_standings
    a.most_states a.table.now a.marks.now q.result q.new.standings.found q.new.standings.moves q.ensures.told
    (rows-room job.held c.requires) c.requires.standings _ s.result
    s.new.table s.new.marks c.in-Some.is s.ensures

pub returns-in_default : goal.returns-in_default
returns-in_default c =
    let a = c.args in
    let job = a.job in
    let q = c.query_standings in
    let numbers = c.clear in
    let bytes = c.clear-in_default in
    core-over job.follow.now job.enter.now job.sizes.now job.accepting.now job.labels job.lists a.most_standings
    a.most_states a.table.now a.marks.now q.result q.new.standings.found q.new.standings.moves q.ensures.told
    (rows-room job.held c.requires) c.requires.standings _ numbers.new.items bytes.new.items (search rules)
    numbers.ensures.enough bytes.ensures.enough (ap Err c.from.ensures)
