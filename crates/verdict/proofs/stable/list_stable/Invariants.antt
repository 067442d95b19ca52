-- The loop's invariant: the occurrences before p are like what is known of their classes (ListLike).
use Rattle.std.specs.Prelude.{◌≡◌, ◌-◌, length}
use Rattle.verdict.specs.StableTurns.{ListLike}
use Rattle.verdict.proofs.stable.list_stable.Given as goal

abbrev pub invariant-loop-p : goal.invariant-loop-p
invariant-loop-p l =
    (length l.merged ≡ length l.initial.merged)
    × ListLike l.v l.base (l.p - 1) l.before l.kinds l.classes l.already l.initial.merged l.initial.entering l.known l.merged l.entering
