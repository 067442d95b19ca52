-- `put_job` meets its contract: Find runs on zeroed memory; its lines are put, and those of the verdict behind them.
use mathlib.Core.Path.{refl}
use Rattle.std.proofs.Common.{ℕ, ◌≡◌, ◌-◌, length, take, drop, ap, ◌∙◌, arith}
use Rattle.output.specs.Writer.{written}
use Rattle.printing.specs.JobPutLaws.{found-put, unfound-put}
use Rattle.printing.proofs.printer.put_job.Goals as goal

pub put_verdict-requires : goal.put_verdict-requires
put_verdict-requires c = c.requires

pub returns-in-Ok-clause-puts : goal.returns-in-Ok-clause-puts
returns-in-Ok-clause-puts c =
    let f = c.find in
    let a = c.args in
    let e : 16 ≡ length a.names.now - 32 = omega arith in
    let listed = c.first_names-listed.ensures ∙ ap (λ (n : ℕ). take a.job.lists (take n (drop 32 a.names.now))) e in
    found-put a.text.now _ _ refl refl f.result f.new.table f.new.marks f.ensures a.names.now (omega arith)
    a.job.labels a.job.lists a.allowance (written a.w.now) _ c.in-Ok.found _ _ c.in-Ok.is listed c.first_names-labelled.ensures
    (λ few small. (c.put_found.ensures.puts few small).puts) c.put_verdict.ensures.puts

pub returns-in-Err-clause-puts : goal.returns-in-Err-clause-puts
returns-in-Err-clause-puts c =
    let f = c.find in
    let a = c.args in
    unfound-put a.text.now _ _ refl refl f.result f.new.table f.new.marks f.ensures a.names.now (omega arith)
    a.job.labels a.job.lists a.allowance (written a.w.now) _ c.in-Err.refused c.in-Err.is c.put_refusal.ensures.puts
