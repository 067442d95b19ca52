use Rattle.std.proofs.Common.{ℕ, ◌≡◌, ap, arith}
use Rattle.output.specs.Writer.{puts_nothing, puts_both, puts_same}
use Rattle.listed.specs.Texts.{repeated}
use Rattle.listed.specs.TextsLaws.{repeated-more}
use Rattle.listed.proofs.sequence.put_repeated.Goals as goal

pub loop-init : goal.loop-init
unfolding repeated
loop-init c = puts_nothing c.args.w.now

pub loop-preserved : goal.loop-preserved
loop-preserved c =
    let l = c.loop in
    puts_same (repeated-more l.counter c.args.bytes.now) (puts_both l.invariant c.put_part.ensures)

pub returns : goal.returns
returns c =
    let e : c.loop.counter ≡ c.args.count = omega arith in
    puts_same (ap (λ (n : ℕ). repeated n c.args.bytes.now) e) c.loop.invariant
