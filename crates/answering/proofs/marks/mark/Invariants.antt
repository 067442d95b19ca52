-- `mark` meets its contract. The loop's invariant: the marks of the recordings below y stand before what is left of the lent marks, and
-- their ones are counted.
use Rattle.std.specs.Prelude.{◌≡◌, ◌≤◌, ◌++◌, drop}
use Rattle.answering.specs.Marked.{ones}
use Rattle.answering.specs.Marks.{marks_of}
use Rattle.answering.proofs.marks.mark.Given as goal

abbrev pub invariant-loop-y : goal.invariant-loop-y
invariant-loop-y l =
    (l.count ≤ l.y) × (l.marks ≡ marks_of l.words l.reached l.accepting l.y 0 ++ drop l.y l.initial.marks)
    × (l.count ≡ ones (marks_of l.words l.reached l.accepting l.y 0))
