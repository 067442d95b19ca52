-- `put_repeated` meets its contract. The loop's invariant: the bytes are put so many times.
use Rattle.output.specs.Writer.{Puts}
use Rattle.listed.specs.Texts.{repeated}
use Rattle.listed.proofs.sequence.put_repeated.Given as goal

abbrev pub invariant-loop : goal.invariant-loop
invariant-loop l = Puts l.initial.w (repeated l.counter l.bytes) l.w
