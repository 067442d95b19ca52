-- `Cursor::suffixes` meets its contract. The loop's invariant: from here on the marks end where they end from the beginning.
use mathlib.Core.Path.{◌≡◌}
use lib.ListN.{drop}
use Rattle.syntax.proofs.Front.{past_while, suffix}
use Rattle.syntax.proofs.cursor.Cursor.suffixes.Given as goal

abbrev pub invariant-loop-i : goal.invariant-loop-i
invariant-loop-i l = past_while suffix (drop l.i l.s) ≡ past_while suffix (drop l.initial.i l.s)
