-- The states are explored into cleared memory. Where there are too many, the table is cleared again.
use Rattle.std.specs.Prelude.{ℕ, Err}
use mathlib.Core.Path.{ap}
use lib.ListN.{length-replicate}
use borrow.Author.Rules.{rules}
use Rattle.finding.specs.ListRows.{job_tables}
use Rattle.finding.specs.StatesPart.{part-over, part-all}
use native.Mathlib.Omega.{arith}
use Rattle.finding.proofs.job_rows.states_with.Goals as goal

pub list_images-requires : goal.list_images-requires
list_images-requires g c = c.args.job.held.fit

pub invariant_of-images : goal.invariant_of-images
invariant_of-images g c =
    record {
      fit = (
        c.requires.few,
        c.args.job.held.few-lists,
        omega (arith, c.requires.enough, c.list_images.auto.rows, length-replicate {A = ℕ} g.row.ROOM 0),
      );
    }

pub returns : goal.returns
returns g c =
    let a = c.args in
    let job = a.job in
    let imaged = c.list_images in
    let zeroed = c.clear in
    let unmarked = c.clear-2 in
    let told = c.explore in
    let T = job_tables a.standings.now.moves a.count job.labels job.follow.now job.enter.now job.sizes.now job.accepting.now in
    let f = c.found_answer in
    part-all T job.lists a.limit a.standings.now.found a.table.now a.marks.now imaged.new.rows zeroed.new.items
    unmarked.new.items told.result told.new.self.found told.new.self.parents told.new.self.symbols
    told.new.table (λ h. imaged.ensures h (omega (arith, c.requires.enough, length-replicate {A = ℕ} g.row.ROOM 0)))
    zeroed.ensures.enough unmarked.ensures.enough
    (λ f h m t. told.ensures m t) told.auto.table
    zeroed.auto.items (omega arith) c.in-Some.n f.result
    f.new.marks c.in-Some.is f.ensures

pub returns-in_default : goal.returns-in_default
returns-in_default g c =
    let a = c.args in
    let job = a.job in
    let imaged = c.list_images in
    let zeroed = c.clear in
    let unmarked = c.clear-2 in
    let told = c.explore in
    let T = job_tables a.standings.now.moves a.count job.labels job.follow.now job.enter.now job.sizes.now job.accepting.now in
    let again = c.clear-in_default in
    part-over T job.lists a.limit a.standings.now.found a.table.now a.marks.now imaged.new.rows zeroed.new.items
    unmarked.new.items told.result told.new.self.found told.new.self.parents told.new.self.symbols
    told.new.table (λ h. imaged.ensures h (omega (arith, c.requires.enough, length-replicate {A = ℕ} g.row.ROOM 0)))
    zeroed.ensures.enough unmarked.ensures.enough
    (λ f h m t. told.ensures m t) told.auto.table
    zeroed.auto.items (omega arith)
    again.new.items _ (search rules) again.ensures.enough (ap Err c.from.ensures)
