-- The loop's invariant: the entries of the lists before v are filled, and those of the others are empty (KindsLeft).
use Rattle.std.specs.Prelude.{◌≡◌, length}
use Rattle.verdict.specs.Tables.{occupied}
use Rattle.verdict.specs.KindsTurns.{KindsLeft}
use Rattle.verdict.proofs.kinds.kinds_of.Given as goal

abbrev pub invariant-loop-v : goal.invariant-loop-v
invariant-loop-v l =
    (l.base ≡ occupied l.sizes 0 l.v) × (length l.kinds ≡ length l.initial.kinds) × KindsLeft l.lists l.labels l.v l.enter l.sizes l.kinds
