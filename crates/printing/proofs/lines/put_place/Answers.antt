-- `put_place` meets its contract: nothing is put without a line, else the word and the number.
use Rattle.std.proofs.Common.{◌≡◌, arith}
use Rattle.output.specs.Writer.{puts_nothing, puts_both, puts_same}
use Rattle.printing.specs.LinesLaws.{no-place, a-place}
use Rattle.printing.proofs.lines.put_place.Goals as goal

pub returns-then-line-gt0 : goal.returns-then-line-gt0
returns-then-line-gt0 c = puts_same (a-place c.args.line c.if-line-gt0.true) (puts_both c.put_part.ensures c.put_number.ensures)

pub returns-else-line-gt0 : goal.returns-else-line-gt0
returns-else-line-gt0 c =
    let e : c.args.line ≡ 0 = omega arith in
    puts_same (no-place c.args.line e) (puts_nothing c.args.w.now)
