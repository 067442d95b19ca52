-- `put_sequence` meets its contract: none, or a first `a` and the others with dots.
use Rattle.std.proofs.Common.{◌≡◌, arith}
use Rattle.output.specs.Writer.{puts_nothing, puts_both, puts_same}
use Rattle.listed.specs.TextsLaws.{letters, no-letter}
use Rattle.listed.proofs.sequence.put_sequence.Goals as goal

pub returns-then-count-gt0 : goal.returns-then-count-gt0
returns-then-count-gt0 c = puts_same (letters c.args.count c.if-count-gt0.true) (puts_both c.put_part.ensures c.put_repeated.ensures)

pub returns-else-count-gt0 : goal.returns-else-count-gt0
returns-else-count-gt0 c =
    let e : c.args.count ≡ 0 = omega arith in
    puts_same (no-letter c.args.count e) (puts_nothing c.args.w.now)
