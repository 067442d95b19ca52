-- `put_verdict` meets its contract: Verdict runs, and what it tells is put.
use Rattle.std.proofs.Common.{◌≡◌, Ok, refl, rules}
use Rattle.output.specs.Writer.{written}
use Rattle.verdict.specs.declared.verdict.Verdict.TheVariants.{Complete, Missed}
use Rattle.printing.specs.VerdictPutLaws.{complete-put, missed-put, refused-put}
use Rattle.printing.proofs.judged.put_verdict.Goals as goal

pub returns-in-Ok-Complete-clause-puts : goal.returns-in-Ok-Complete-clause-puts
returns-in-Ok-Complete-clause-puts c =
    let j = c.judge in
    let a = c.args in
    let told : j.result ≡ Ok (Complete c.in-Ok-Complete.pairs) = search rules in
    complete-put a.labels.text.now a.allowance _ _ _ _ refl refl c.requires j.result j.new.table j.new.flags j.new.path j.new.workspace j.ensures
    a.labels.spans.now (written a.w.now) _ told c.put_part.ensures.puts c.put_count.ensures.puts

pub returns-in-Ok-Missed-clause-puts : goal.returns-in-Ok-Missed-clause-puts
returns-in-Ok-Missed-clause-puts c =
    let j = c.judge in
    let a = c.args in
    let told : j.result ≡ Ok (Missed c.in-Ok-Missed.size c.in-Ok-Missed.pairs) = search rules in
    missed-put a.labels.text.now a.allowance _ _ _ _ refl refl c.requires j.result j.new.table j.new.flags j.new.path j.new.workspace j.ensures
    a.labels.spans.now (written a.w.now) _ _ told c.of.ensures c.put_named_line.ensures.puts c.put_count-in-Ok-Missed.ensures.puts

pub returns-in-Err-clause-puts : goal.returns-in-Err-clause-puts
returns-in-Err-clause-puts c =
    let j = c.judge in
    let a = c.args in
    refused-put a.labels.text.now a.allowance _ _ _ _ refl refl c.requires j.result j.new.table j.new.flags j.new.path j.new.workspace j.ensures
    a.labels.spans.now (written a.w.now) c.in-Err.refused c.in-Err.is c.put_refusal.ensures.puts
