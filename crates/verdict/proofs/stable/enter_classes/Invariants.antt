-- The loop's invariant: the classes before c stand at the labels that enter them (EnteredBy).
use Rattle.std.specs.Prelude.{◌≡◌, ◌<◌, ◌≤◌, length}
use Rattle.verdict.specs.StableTurns.{EnteredBy}
use Rattle.verdict.proofs.stable.enter_classes.Given as goal

abbrev pub invariant-loop-c : goal.invariant-loop-c
invariant-loop-c l = (0 < l.c) × (l.c ≤ l.k) × (length l.merged ≡ length l.initial.merged) × EnteredBy l.c l.entering l.initial.merged l.merged
