-- The loop's invariant: the set has what is new in the lists before v (Stepping).
use Rattle.std.specs.Prelude.{◌≡◌, length}
use Rattle.places.specs.Words.{number_of}
use Rattle.verdict.specs.RangesLists.{Stepping}
use Rattle.verdict.proofs.ranges.step_ranges.Given as goal

abbrev pub invariant-loop-v : goal.invariant-loop-v
invariant-loop-v l =
    (length l.words ≡ 16) × Stepping l.tables.states l.a l.v l.base l.tables.enter.now l.tables.sizes.now l.tables.accepting.now l.ways.before.now l.ways.ended.now l.tables.table.now (number_of l.set) l.words
