-- The loop's invariant: the sets found lie within the room, which keeps its length.
use Rattle.std.specs.Prelude.{◌≡◌, ◌≤◌, length}
use Rattle.cases.proofs.explore.extend.Given as goal

abbrev pub invariant-loop-a : goal.invariant-loop-a
invariant-loop-a l = (l.n ≤ l.m) × (l.m ≤ length l.found) × (length l.found ≡ length l.initial.found)
