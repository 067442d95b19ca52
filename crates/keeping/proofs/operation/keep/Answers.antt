-- The output is measured first; then the text is read into tables, and Keep runs on them.
use Rattle.std.proofs.Common.{◌≡◌, Err, sym, ap, ◌∙◌, rules, arith}
use Rattle.reading.specs.declared.answer.Refused.{Refused}
use Rattle.reading.specs.Loading.{tables}
use Rattle.finding.specs.RowsHeld.{rows-held}
use Rattle.finding.specs.Operation.{read-few, holds-job}
use Rattle.keeping.specs.KeepOperation.{left}
use Rattle.keeping.specs.KeepOperationLaws.{out-short, out-long, text-refused}
use Rattle.keeping.proofs.operation.keep.Goals as goal

pub returns-then-out-lt-LENGTH : goal.returns-then-out-lt-LENGTH
returns-then-out-lt-LENGTH c =
    let a = c.args in
    ap (λ (r : Refused). left (Err r) a.out.now) c.from.ensures ∙ out-short a.text.now a.out.now c.if-out-lt-LENGTH.true

pub returns-in_err-job : goal.returns-in_err-job
returns-in_err-job c =
    let a = c.args in
    let l = c.load in
    let same : c.from_residual.result ≡ Err c.in_err-job.field-0.0 = search rules in
    rw same
    (text-refused a.text.now a.out.now c.if-out-lt-LENGTH.false l.result (tables l.new.names l.new.follow l.new.enter l.new.sizes l.new.accepting)
    l.ensures _ c.in_err-job.was)

pub invariant_of-rows : goal.invariant_of-rows
invariant_of-rows c =
    let text = c.args.text.now in
    let e = c.in_ok-job.was in
    let (few-labels, few-lists) = read-few text c.load.ensures e in
    record {
      held = rows-held few-labels few-lists
          (record {
            query_follow = omega arith;
            query_enter = omega arith;
            lists_follow = λ h. omega arith;
            lists_enter = λ h. omega arith;
          })
          (holds-job text c.load.ensures e);
    }

pub returns : goal.returns
returns c = c.keep_job.ensures ∙ sym (out-long c.args.text.now c.args.out.now c.if-out-lt-LENGTH.false)
