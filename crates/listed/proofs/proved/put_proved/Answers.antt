-- `put_proved` meets its contract: each text is that of its entry in the table of T10.
use Rattle.std.proofs.Common.{arith}
use Rattle.output.specs.Writer.{puts_nothing, puts_same}
use Rattle.listed.specs.TextsLaws.{same-text, no-text}
use Rattle.listed.specs.Texts.{proved_text}
use Rattle.listed.proofs.proved.put_proved.Goals as goal

pub returns-in-1 : goal.returns-in-1
unfolding proved_text
returns-in-1 c = puts_same (same-text c.args.number 1 c.in-1.is) c.put_example.ensures

pub returns-in-2 : goal.returns-in-2
unfolding proved_text
returns-in-2 c = puts_same (same-text c.args.number 2 c.in-2.is) c.put_part.ensures

pub returns-in-3 : goal.returns-in-3
unfolding proved_text
returns-in-3 c = puts_same (same-text c.args.number 3 c.in-3.is) c.put_part-in-3.ensures

pub returns-in-4 : goal.returns-in-4
unfolding proved_text
returns-in-4 c = puts_same (same-text c.args.number 4 c.in-4.is) c.put_part-in-4.ensures

pub returns-in-5 : goal.returns-in-5
unfolding proved_text
returns-in-5 c = puts_same (same-text c.args.number 5 c.in-5.is) c.put_part-in-5.ensures

pub returns-in-6 : goal.returns-in-6
unfolding proved_text
returns-in-6 c = puts_same (same-text c.args.number 6 c.in-6.is) c.put_part-in-6.ensures

pub returns-in-7 : goal.returns-in-7
unfolding proved_text
returns-in-7 c = puts_same (same-text c.args.number 7 c.in-7.is) c.put_part-in-7.ensures

pub returns-in-8 : goal.returns-in-8
unfolding proved_text
returns-in-8 c = puts_same (same-text c.args.number 8 c.in-8.is) c.put_example-in-8.ensures

pub returns-in_default : goal.returns-in_default
returns-in_default c = puts_same (no-text c.args.number (λ p. omega arith)) (puts_nothing c.args.w.now)
