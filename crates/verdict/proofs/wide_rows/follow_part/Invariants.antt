-- The loop's invariant: what has been joined, with the rows of the offsets left, is what the rows of all offsets have.
use Rattle.std.specs.Prelude.{◌+◌, ◌*◌, ◌^◌, ◌<◌, get_or}
use Rattle.places.specs.Followed.{FollowedLeft}
use Rattle.verdict.proofs.wide_rows.follow_part.Given as goal

abbrev pub invariant-loop-p : goal.invariant-loop-p
invariant-loop-p l =
    (goal.iterator-loop-p).can_next l.p-iterator × (goal.iterator-loop-p).is_finite l.p-iterator × (l.p-iterator.rest < 2 ^ 64) × FollowedLeft (λ o. get_or l.rows (l.first + 2 * o) 0) l.part l.low l.p-iterator.rest
    × FollowedLeft (λ o. get_or l.rows (l.first + 2 * o + 1) 0) l.part l.high l.p-iterator.rest
