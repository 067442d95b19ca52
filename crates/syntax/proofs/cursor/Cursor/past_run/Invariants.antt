-- `Cursor::past_run` meets its contract. The loop's invariant: from here on the run ends where it ends from the beginning.
use mathlib.Core.Path.{◌≡◌}
use lib.ListN.{drop}
use Rattle.syntax.specs.Byte.{name_byte}
use Rattle.syntax.proofs.Front.{past_while}
use Rattle.syntax.proofs.cursor.Cursor.past_run.Given as goal

abbrev pub invariant-loop-i : goal.invariant-loop-i
invariant-loop-i l = past_while name_byte (drop l.i l.s) ≡ past_while name_byte (drop l.initial.i l.s)
