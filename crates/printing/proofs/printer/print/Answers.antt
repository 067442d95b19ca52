-- `print` meets its contract: there is room for all that is printed.
use native.Mathlib.Omega.{arith}
use Rattle.output.specs.Writer.{puts_started}
use Rattle.printing.specs.PrintLaws.{prints}
use Rattle.printing.proofs.printer.print.Goals as goal

pub returns : goal.returns
returns c =
    let p = c.put_printed in
    let a = c.args in
    prints 128 a.text.now a.out.now p.new.w.at _ (omega arith) (puts_started c.new-w.ensures.starts p.ensures)
