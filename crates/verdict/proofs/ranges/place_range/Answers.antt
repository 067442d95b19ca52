-- The column is joined, and what is reached from it is added where a path may end.
use mathlib.Core.Path.{◌∙◌}
use Rattle.places.specs.Words.{number_of}
use Rattle.verdict.specs.ColumnLists.{tested, not_tested}
use Rattle.verdict.specs.RangesLists.{joined-closed, place-ends, place-alone}
use Rattle.verdict.proofs.ranges.place_range.Goals as goal

pub end_range-requires : goal.end_range-requires
end_range-requires c =
    let s = c in
    let a = s.args in
    let r = s.requires.2 in
    let join-ranges = c.join_ranges in
    let joined = join-ranges.new.words in (
      join-ranges.auto.words ∙ s.requires.1,
      r.list,
      r.beyond,
      r.few-places,
      r.closing,
      joined-closed a.tables.states (number_of a.set.now) a.accepting a.v a.base a.p a.ways.before.now a.ways.ended.now a.tables.table.now a.words.now r joined join-ranges.ensures,
      r.table-room,
      r.next,
    )

pub returns-then-accepting-p-eq1 : goal.returns-then-accepting-p-eq1
returns-then-accepting-p-eq1 c =
    let s = c in
    let a = s.args in
    let r = s.requires.2 in
    let join-ranges = c.join_ranges in
    let joined = join-ranges.new.words in
    place-ends a.tables.states (number_of a.set.now) a.accepting a.v a.base a.p a.ways.before.now a.ways.ended.now a.tables.table.now a.words.now r joined join-ranges.ensures _ (tested a.p a.accepting c.if-accepting-p-eq1.true) c.end_range.ensures

pub returns-else-accepting-p-eq1 : goal.returns-else-accepting-p-eq1
returns-else-accepting-p-eq1 c =
    let s = c in
    let a = s.args in
    let r = s.requires.2 in
    let join-ranges = c.join_ranges in
    let joined = join-ranges.new.words in
    place-alone a.tables.states (number_of a.set.now) a.accepting a.v a.base a.p a.ways.before.now a.ways.ended.now a.tables.table.now a.words.now r joined join-ranges.ensures (not_tested a.p a.accepting c.if-accepting-p-eq1.false)
