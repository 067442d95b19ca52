-- The loop's invariant: the states alone are closed, and what the set gained, with what it gains for the occurrences left, is what it gains
-- for all (AddsLeft).
use Rattle.std.specs.Prelude.{◌≡◌, ◌+◌, ◌^◌, ◌<◌, length}
use Rattle.places.specs.Words.{number_of}
use Rattle.verdict.specs.ColumnLists.{inner_of}
use Rattle.verdict.specs.Ranges.{Closed, PlaceNew}
use Rattle.verdict.specs.RangesTurns.{AddsLeft}
use Rattle.verdict.proofs.ranges.list_ranges.Given as goal

abbrev pub invariant-loop-i : goal.invariant-loop-i
invariant-loop-i l =
    (goal.iterator-loop-i).can_next l.i-iterator × (goal.iterator-loop-i).is_finite l.i-iterator × (l.i-iterator.rest < 2 ^ 64) × (length l.words ≡ 16) × Closed l.tables.states l.ways.ended.now (number_of l.words)
    × AddsLeft (λ x. PlaceNew l.tables.states (number_of l.set) l.ways.before.now l.ways.ended.now l.tables.table.now l.accepting l.v l.base (1 + x)) (inner_of l.entered l.size) l.initial.words l.words l.i-iterator.rest
