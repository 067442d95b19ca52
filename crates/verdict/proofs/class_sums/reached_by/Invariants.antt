-- The loop's invariant: what is joined, with what the lists left give, is what the set gives (FollowedLeft).
use Rattle.std.specs.Prelude.{ℕ, ◌+◌, ◌*◌, ◌^◌, ◌<◌, get_or}
use Rattle.theory.specs.Places.{Member}
use Rattle.places.specs.Followed.{FollowedLeft}
use Rattle.verdict.proofs.class_sums.reached_by.Given as goal

abbrev pub invariant-loop-v : goal.invariant-loop-v
invariant-loop-v l =
    (goal.iterator-loop-v).can_next l.v-iterator × (goal.iterator-loop-v).is_finite l.v-iterator × (l.v-iterator.rest < 2 ^ 64) × ((i : ℕ) → Member i l.v-iterator.rest → Member i l.set)
    × FollowedLeft (λ v. get_or l.passes (get_or l.table (16 * l.q + v) 0) 0) l.set l.all l.v-iterator.rest
