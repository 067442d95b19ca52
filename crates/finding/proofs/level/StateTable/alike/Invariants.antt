-- The loop's invariant: the next states for the lists below v are in the same classes.
use Rattle.std.specs.Prelude.{◌≡◌, ℕ, ◌+◌, ◌*◌, ◌<◌, get_or}
use Rattle.theory.specs.Refinement.{class_at}
use Rattle.finding.proofs.level.StateTable.alike.Given as goal

abbrev pub invariant-loop-v : goal.invariant-loop-v
invariant-loop-v l =
    (u : ℕ) → u < l.v → class_at l.classes (get_or l.self.table.now (16 * l.s + u) 0) ≡ class_at l.classes (get_or l.self.table.now (16 * l.t + u) 0)
