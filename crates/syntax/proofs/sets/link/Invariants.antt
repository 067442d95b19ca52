-- The loop's invariant: the ends that are left, linked in the table as it is, give what all of them give.
use Prim.Native.Nat.{◌<◌, ◌^◌}
use mathlib.Core.Path.{◌≡◌}
use Rattle.theory.specs.Automaton.{link}
use Rattle.syntax.proofs.sets.link.Given as goal

abbrev pub invariant-loop-place : goal.invariant-loop-place
invariant-loop-place l =
    (goal.iterator-loop-place).can_next l.place-iterator
    × (goal.iterator-loop-place).is_finite l.place-iterator
    × (l.place-iterator.rest < 2 ^ 64)
    × (link l.place-iterator.rest l.more.0 0 l.table ≡ link l.fn.ends.0 l.more.0 0 l.initial.table)
