-- `put_zeros` meets its contract. The loop's invariant: so many zeros are put.
use Rattle.std.specs.Prelude.{replicate}
use Rattle.output.specs.Writer.{Puts}
use Rattle.output.proofs.writer.Writer.put_zeros.Given as goal

abbrev pub invariant-loop : goal.invariant-loop
invariant-loop l = Puts l.initial.self (replicate l.counter 0) l.self
