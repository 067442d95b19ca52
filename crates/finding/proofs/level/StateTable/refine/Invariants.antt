-- The loop's invariant: each class is named by its first state, and states with the same continuations are in one class. A split that some
-- state leaves its class in makes more classes, of which there are at most as many as states.
use Rattle.std.specs.Prelude.{◌≡◌, ◌-◌, length}
use Rattle.theory.specs.Classes.{Coarse}
use Rattle.theory.specs.Leaders.{Led, leaders}
use Rattle.theory.specs.Refinement.{class_at}
use Rattle.finding.specs.Find.{deterministic}
use Rattle.finding.proofs.level.StateTable.refine.Given as goal

abbrev pub invariant-loop-keys : goal.invariant-loop-keys
invariant-loop-keys l =
    (length l.classes ≡ 256)
    × (length l.keys ≡ 256)
    × Led l.self.states (class_at l.classes)
    × Coarse (deterministic l.self.states l.self.lists l.self.table.now l.self.flags.now) (class_at l.classes)

abbrev pub decreases-loop-keys : goal.decreases-loop-keys
decreases-loop-keys l = l.self.states - leaders (class_at l.classes) l.self.states
