-- The loop's invariant: the entries of the lists before v are filled, and those of the others are empty (ListsLed).
use Rattle.std.specs.Prelude.{◌≡◌, length}
use Rattle.verdict.specs.LeadingTurns.{ListsLed}
use Rattle.verdict.proofs.leading.leading.Given as goal

abbrev pub invariant-loop-v : goal.invariant-loop-v
invariant-loop-v l = ListsLed l.lists l.v l.follow l.sizes l.before × (length l.before ≡ length l.initial.before)
