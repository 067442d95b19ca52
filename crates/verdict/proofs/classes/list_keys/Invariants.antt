-- The loop's invariant: the entries keep their number.
use Rattle.std.specs.Prelude.{◌≡◌, ◌+◌, ◌<◌, ◌≤◌, length}
use Rattle.verdict.proofs.classes.list_keys.Given as goal

abbrev pub invariant-loop-p : goal.invariant-loop-p
invariant-loop-p l = (0 < l.p) × (l.p ≤ l.size + 1) × (length l.keys ≡ length l.initial.keys)
