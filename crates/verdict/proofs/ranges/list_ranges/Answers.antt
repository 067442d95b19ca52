use Rattle.std.specs.Prelude.{◌+◌, ◌-◌}
use mathlib.Core.Path.{sym, ◌∙◌, subst}
use lib.Bits.{and_le_r}
use lib.Count.{count_trailing_zeros, trailing_le}
use Rattle.places.specs.Words.{number_of}
use Rattle.places.specs.NextPlace.{trailing-here}
use Rattle.verdict.specs.ColumnLists.{inner_of}
use Rattle.verdict.specs.Ranges.{PlaceNew}
use Rattle.verdict.specs.RangesTurns.{AddsLeft, left-start, left-turn, left_end}
use Rattle.verdict.specs.RangesLists.{place-closed, place-ready, list-end}
use native.Mathlib.Omega.{arith}
use Rattle.std.proofs.Common.{rules}
use Rattle.verdict.proofs.ranges.list_ranges.Goals as goal

pub loop-i-init : goal.loop-i-init
loop-i-init c =
    let s = c in
    let a = s.args in
    rw (c.into_iter-i-iterator.ensures.into_iter_gives, c.members-i-items.ensures) (
      search rules,
      search rules,
      omega arith,
      s.requires.1,
      s.requires.2.closed,
      subst (λ z. AddsLeft (λ x. PlaceNew a.tables.states (number_of a.set.now) a.ways.before.now a.ways.ended.now a.tables.table.now a.accepting a.v a.base (1 + x)) (inner_of a.entered a.size) a.words.now a.words.now z)
          (sym c.inner.ensures) (left-start (inner_of a.entered a.size) a.words.now),
    )

pub overflow_add-p : goal.overflow_add-p
overflow_add-p c =
    let (some, is, left) = c.in-Some.ensures.steps in
    omega (arith, trailing_le 64 c.loop-i.i-iterator.rest)

pub place_range-requires : goal.place_range-requires
place_range-requires c =
    let (some, is, left) = c.in-Some.ensures.steps in
    let here = rw (← is) at (trailing-here 64 c.loop-i.i-iterator.rest some c.loop-i.invariant.2) in
    let s = c in
    let a = s.args in
    let l = c.loop-i in (
      s.requires.0,
      l.invariant.3,
      place-ready a.tables.states (number_of a.set.now) a.accepting a.entered a.size a.v a.base a.ways.before.now a.ways.ended.now a.tables.table.now a.words.now s.requires.2 c.in-Some.i l.i-iterator.rest l.words
          here l.invariant.5 l.invariant.4,
    )

pub loop-i-preserved : goal.loop-i-preserved
loop-i-preserved c =
    let (some, is, left) = c.in-Some.ensures.steps in
    let s = c in
    let a = s.args in
    let l = c.loop-i in
    let place-range = c.place_range in
    rw left (
      search rules,
      search rules,
      omega (arith, l.invariant.2, and_le_r l.i-iterator.rest (l.i-iterator.rest - 1)),
      place-range.auto.words ∙ l.invariant.3,
      place-closed a.tables.states (number_of a.set.now) a.accepting a.entered a.size a.v a.base a.ways.before.now a.ways.ended.now a.tables.table.now a.words.now s.requires.2 (count_trailing_zeros 64 l.i-iterator.rest) l.words place-range.new.words (rw is at place-range.ensures) l.invariant.4,
      left-turn {New = λ x. PlaceNew a.tables.states (number_of a.set.now) a.ways.before.now a.ways.ended.now a.tables.table.now a.accepting a.v a.base (1 + x)} (inner_of a.entered a.size) _ l.words _ l.i-iterator.rest some l.invariant.2 (rw is at place-range.ensures)
          l.invariant.5,
    )

pub shape_of-words : goal.shape_of-words
shape_of-words c = c.loop-i.invariant.3 ∙ sym c.requires.1

pub returns : goal.returns
returns c =
    let s = c in
    let a = s.args in
    let l = c.loop-i in
    list-end a.tables.states (number_of a.set.now) a.accepting a.entered a.size a.v a.base a.ways.before.now a.ways.ended.now a.tables.table.now a.words.now s.requires.2 l.words
    (left_end {New = λ x. PlaceNew a.tables.states (number_of a.set.now) a.ways.before.now a.ways.ended.now a.tables.table.now a.accepting a.v a.base (1 + x)} (inner_of a.entered a.size) _ l.words l.i-iterator.rest c.in-None.ensures.steps.0 l.invariant.5)
