-- `put_printed` meets its contract: the text is read for its names, and a refusal or the job is put.
use Rattle.output.specs.Writer.{written}
use Rattle.reading.specs.Loading.{tables}
use Rattle.printing.specs.PrintLaws.{text-refused, text-put}
use Rattle.printing.proofs.printer.put_printed.Goals as goal

pub returns-in-Err : goal.returns-in-Err
returns-in-Err c =
    let l = c.load-read in
    let a = c.args in
    record {
      same_reference = c.put_refusal.ensures.same_reference;
      puts = text-refused a.text.now l.result (tables l.new.names l.new.follow l.new.enter l.new.sizes l.new.accepting) l.ensures
          a.allowance (written a.w.now) c.in-Err.refused c.in-Err.is c.put_refusal.ensures.puts;
    }

pub returns-in-Ok : goal.returns-in-Ok
returns-in-Ok c =
    let l = c.load-read in
    let a = c.args in
    record {
      same_reference = c.put_job.ensures.same_reference;
      puts = text-put a.text.now l.result (tables l.new.names l.new.follow l.new.enter l.new.sizes l.new.accepting) l.ensures
          a.allowance (written a.w.now) c.in-Ok.job c.in-Ok.is c.put_job.ensures.puts;
    }
