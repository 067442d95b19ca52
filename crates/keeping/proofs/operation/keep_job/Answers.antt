-- Find runs on zeroed memory; what it finds is written to the output, and where it finds nothing the output is cleared.
use Rattle.std.proofs.Common.{ℕ, ◌≡◌, ◌+◌, ◌-◌, take, drop, refl, ap, arith}
use Rattle.reading.specs.Tables.{Tables}
use Rattle.reading.specs.Loading.{tables}
use Rattle.keeping.specs.KeepOperationLaws.{job-kept, job-unfound}
use Rattle.keeping.proofs.operation.keep_job.Goals as goal

pub slice_bounds-spans-end : goal.slice_bounds-spans-end
slice_bounds-spans-end c = omega (arith, c.args.job.held.few-lists)

pub returns-in-Ok : goal.returns-in-Ok
returns-in-Ok c =
    let a = c.args in
    let f = c.find_rows in
    let T : Tables = tables a.names.now a.job.follow.now a.job.enter.now a.job.sizes.now a.job.accepting.now in
    let e : 32 + a.job.lists - 32 ≡ a.job.lists = omega arith in
    job-kept a.text.now T a.job.labels a.job.lists a.out.now (omega arith) _ _ refl refl f.result f.new.table f.new.marks f.ensures
    c.requires.0 c.requires.1 c.in-Ok.found _ c.write.result c.write.new.out c.in-Ok.is (ap (λ (n : ℕ). take n (drop 32 a.names.now)) e)
    c.write.ensures

pub returns-in-Err : goal.returns-in-Err
returns-in-Err c =
    let a = c.args in
    let f = c.find_rows in
    let T : Tables = tables a.names.now a.job.follow.now a.job.enter.now a.job.sizes.now a.job.accepting.now in
    job-unfound a.text.now T a.job.labels a.job.lists a.out.now (omega arith) _ _ refl refl f.result f.new.table f.new.marks f.ensures
    c.requires.0 c.requires.1 c.in-Err.refused c.clear.new.items c.in-Err.is (c.clear.ensures.enough c.requires.0)
