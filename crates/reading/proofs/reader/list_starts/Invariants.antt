-- `list_starts` meets its contract. The loop's invariant: those counted and those of what is left are those of the whole.
use Prim.Native.Nat.{◌+◌, ◌-◌}
use mathlib.Core.Path.{◌≡◌}
use lib.ListN.{drop}
use Rattle.reading.specs.ListStarts.{list_starts}
use Rattle.reading.proofs.reader.list_starts.Given as goal

abbrev pub invariant-loop-i : goal.invariant-loop-i
invariant-loop-i l = l.n + list_starts (drop (l.i - 1) l.text) ≡ list_starts l.text
