-- The text is read into the tables, and Find runs on them.
use Rattle.std.specs.Prelude.{◌≡◌, Err}
use mathlib.Core.Path.{refl}
use borrow.Author.Rules.{rules}
use Rattle.reading.specs.Loading.{tables}
use Rattle.finding.specs.Operation.{rows-loaded, reading-refused, reading-found}
use Rattle.finding.proofs.operation.find_in.Goals as goal

pub invariant_of-rows : goal.invariant_of-rows
invariant_of-rows g c =
    let l = c.load_rows in
    record {
      held =
          rows-loaded c.args.text.now l.result (tables l.new.names l.new.follow l.new.enter l.new.sizes l.new.accepting) l.ensures.loaded
          l.ensures.roomy _ _ c.in_ok-job.was;
    }

pub returns-in_err-job : goal.returns-in_err-job
returns-in_err-job g c =
    let a = c.args in
    let l = c.load_rows in
    let same : c.from_residual.result ≡ Err c.in_err-job.field-0.0 = search rules in
    rw same
    (reading-refused a.text.now a.table.now a.marks.now c.requires.lent.0 c.requires.lent.1 l.result
    (tables l.new.names l.new.follow l.new.enter l.new.sizes l.new.accepting)
    l.ensures.loaded _ _ _ c.in_err-job.was refl)

pub returns : goal.returns
returns g c =
    let a = c.args in
    let l = c.load_rows in
    let f = c.find_rows in
    reading-found a.text.now a.table.now a.marks.now c.requires.lent.0 c.requires.lent.1 l.result
    (tables l.new.names l.new.follow l.new.enter l.new.sizes l.new.accepting)
    l.ensures.loaded _ _ f.result f.new.table f.new.marks c.in_ok-job.was
    f.ensures
