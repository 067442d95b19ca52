-- `occurrences` meets its contract. The loop's invariant: the runs that are left are known where all the runs of the text are, and with the
-- runs counted they are as many as the text has.
use Prim.Native.Nat.{◌+◌, ◌-◌, ◌≤◌}
use mathlib.Core.Bool.{false}
use mathlib.Core.Path.{◌≡◌}
use lib.ListN.{length, drop}
use Rattle.syntax.specs.Limits.{runs}
use Rattle.syntax.specs.Resolve.{known, names_at}
use Rattle.syntax.proofs.labels.occurrences.Given as goal

abbrev pub invariant-loop-i : goal.invariant-loop-i
invariant-loop-i l =
    (l.count ≤ l.i)
    × (l.i ≤ length l.s)
    × (l.count + length (runs false (drop l.i l.s)) ≡ length (runs false l.s))
    × (known (names_at l.names.text.now l.names.spans.now) (runs false (drop l.i l.s)) ≡ known (names_at l.names.text.now l.names.spans.now) (runs false l.s))

abbrev pub decreases-loop-i : goal.decreases-loop-i
decreases-loop-i l = length l.s - l.i
