-- The loop's invariant: what the set gained, with what it gains for the places left, is what it gains for all (AddsLeft).
use Rattle.std.specs.Prelude.{◌≡◌, ◌*◌, ◌^◌, ◌<◌, length}
use Rattle.places.specs.Words.{number_of}
use Rattle.verdict.specs.ColumnOffsets.{offset_from}
use Rattle.verdict.specs.Ranges.{RangeAt}
use Rattle.verdict.specs.RangesTurns.{AddsLeft}
use Rattle.verdict.proofs.ranges.join_ranges.Given as goal

abbrev pub invariant-loop-p : goal.invariant-loop-p
invariant-loop-p l =
    (goal.iterator-loop-p).can_next l.p-iterator × (goal.iterator-loop-p).is_finite l.p-iterator × (l.p-iterator.rest < 2 ^ 64) × (length l.words ≡ 16) × AddsLeft (λ o. RangeAt l.n (number_of l.set) (l.n * offset_from l.base o) l.to) l.from l.initial.words l.words l.p-iterator.rest
