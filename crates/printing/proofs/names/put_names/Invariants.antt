-- `put_names` meets its contract. The loop's invariant: the names at the places before this one are put.
use Rattle.std.specs.Prelude.{take}
use Rattle.syntax.specs.Resolve.{names_at}
use Rattle.output.specs.Writer.{Puts}
use Rattle.printing.specs.Lines.{spelled}
use Rattle.printing.proofs.names.put_names.Given as goal

abbrev pub invariant-loop-place : goal.invariant-loop-place
invariant-loop-place l = Puts l.initial.w (spelled (names_at l.names.text.now l.names.spans.now) (take l.place-index l.places)) l.w
