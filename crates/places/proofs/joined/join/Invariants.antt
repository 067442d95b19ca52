-- The loop's invariant: what has been joined, with the words of the places left, is what the whole set has. The measure is the places left.
use Prim.Native.Nat.{ℕ, ◌+◌, ◌*◌, ◌^◌, ◌<◌}
use lib.ListN.{get_or}
use Rattle.theory.specs.Places.{Member}
use Rattle.places.specs.Followed.{FollowedLeft}
use Rattle.places.proofs.joined.join.Given as goal

abbrev pub invariant-loop-place : goal.invariant-loop-place
invariant-loop-place l =
    (goal.iterator-loop-place).can_next l.place-iterator
    × (goal.iterator-loop-place).is_finite l.place-iterator
    × (l.place-iterator.rest < 2 ^ 64)
    × ((p : ℕ) → Member p l.place-iterator.rest → Member p l.set)
    × FollowedLeft (λ p. get_or l.words (l.apart * p + l.first) 0) l.set l.all l.place-iterator.rest
