-- `put_part` meets its contract. The loop's invariant: the bytes before the index are put.
use Rattle.std.specs.Prelude.{take}
use Rattle.output.specs.Writer.{Puts}
use Rattle.output.proofs.writer.Writer.put_part.Given as goal

abbrev pub invariant-loop-byte : goal.invariant-loop-byte
invariant-loop-byte l = Puts l.initial.self (take l.byte-index l.bytes) l.self
