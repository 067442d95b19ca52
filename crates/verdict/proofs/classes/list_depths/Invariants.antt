-- The loop's invariant: the entries keep their number.
use Rattle.std.specs.Prelude.{◌≡◌, ◌<◌, ◌≤◌, length}
use Rattle.verdict.proofs.classes.list_depths.Given as goal

abbrev pub invariant-loop-depth : goal.invariant-loop-depth
invariant-loop-depth l = (0 < l.depth) × (l.depth ≤ 64) × (length l.keys ≡ length l.initial.keys)
