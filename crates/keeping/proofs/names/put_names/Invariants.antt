-- `put_names` meets its contract. The loop's invariant: the names at the places before this one are put.
use Rattle.std.specs.Prelude.{take}
use Rattle.syntax.specs.Resolve.{names_at}
use Rattle.output.specs.Writer.{Puts}
use Rattle.keeping.specs.Write.{name_bytes}
use Rattle.keeping.proofs.names.put_names.Given as goal

abbrev pub invariant-loop-span : goal.invariant-loop-span
invariant-loop-span l = Puts l.initial.w (name_bytes (names_at l.text (take l.span-index l.spans))) l.w
