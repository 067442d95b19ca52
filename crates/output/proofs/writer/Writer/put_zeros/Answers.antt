use Rattle.std.proofs.Common.{ℕ, ◌≡◌, ap, replicate, arith}
use Rattle.std.proofs.lemmas.List.{replicate-append-replicate}
use Rattle.output.specs.Writer.{puts_nothing, puts_both, puts_same}
use Rattle.output.proofs.writer.Writer.put_zeros.Goals as goal

pub loop-init : goal.loop-init
loop-init c = puts_nothing c.args.self.now

pub loop-preserved : goal.loop-preserved
loop-preserved c =
    let l = c.loop in
    puts_same (replicate-append-replicate l.counter 1 0) (puts_both l.invariant c.put.ensures)

pub returns : goal.returns
returns c =
    let l = c.loop in
    let e : l.counter ≡ c.args.count = omega arith in
    puts_same (ap (λ (n : ℕ). replicate n 0) e) l.invariant
