-- The loop's invariant: what the set gained, with what it gains for the states left, is what it gains for all (AddsLeft).
use Rattle.std.specs.Prelude.{◌≡◌, ℕ, ◌+◌, ◌*◌, ◌^◌, ◌<◌, length, get_or}
use Rattle.places.specs.Words.{number_of}
use Rattle.verdict.specs.Ranges.{Leads, Going}
use Rattle.verdict.specs.RangesTurns.{AddsLeft}
use Rattle.verdict.proofs.ranges.add_states.Given as goal

abbrev pub invariant-loop-p : goal.invariant-loop-p
invariant-loop-p l =
    (goal.iterator-loop-p).can_next l.p-iterator × (goal.iterator-loop-p).is_finite l.p-iterator × (l.p-iterator.rest < 2 ^ 64) × (length l.words ≡ 16) × ((n : ℕ) × Going n l.v l.first l.reached l.table (number_of l.words) l.p-iterator.rest)
    × AddsLeft (λ x. Leads l.reached (get_or l.table (16 * (l.first + x) + l.v) 0)) l.states l.initial.words l.words l.p-iterator.rest
