-- The loop's invariant: the occurrences of the lists before v are like what is known of their classes (ListsLike).
use Rattle.std.specs.Prelude.{◌≡◌, length}
use Rattle.verdict.specs.Tables.{occupied}
use Rattle.verdict.specs.StableTurns.{ListsLike}
use Rattle.verdict.proofs.stable.stable.Given as goal

abbrev pub invariant-loop-v : goal.invariant-loop-v
invariant-loop-v l =
    (l.base ≡ occupied l.sizes 0 l.v) × (length l.merged ≡ length l.initial.merged) × (length l.entering ≡ length l.initial.entering)
    × ListsLike l.v l.sizes l.before l.kinds l.classes l.known l.merged l.entering
