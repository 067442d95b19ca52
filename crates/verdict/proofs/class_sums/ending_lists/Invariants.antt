-- The loop's invariant: the lists before v are put down (EndingLists), and the occurrences of the list v come after `base`. The measure is
-- the number of lists left.
use Rattle.std.specs.Prelude.{◌≡◌}
use Rattle.verdict.specs.Tables.{occupied}
use Rattle.verdict.specs.Classes.{EndingLists}
use Rattle.verdict.proofs.class_sums.ending_lists.Given as goal

abbrev pub invariant-loop-v : goal.invariant-loop-v
invariant-loop-v l =
    (l.base ≡ occupied l.sizes 0 l.v) × EndingLists l.v l.sizes l.accepting l.classes l.ends
