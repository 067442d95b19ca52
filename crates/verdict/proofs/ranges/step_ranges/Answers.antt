use mathlib.Core.Path.{sym, ◌∙◌}
use Rattle.places.specs.Words.{number_of}
use Rattle.verdict.specs.RangesLists.{stepping-start, stepping-ready, stepping-turn, stepping-end}
use native.Mathlib.Omega.{arith}
use Rattle.verdict.proofs.ranges.step_ranges.Goals as goal

pub loop-v-init : goal.loop-v-init
loop-v-init c =
    let s = c in
    let a = s.args in
    (s.requires.3, stepping-start a.tables.states a.tables.lists a.a a.tables.enter.now a.tables.sizes.now a.tables.accepting.now a.ways.before.now a.ways.ended.now a.tables.table.now (number_of a.set.now) s.requires.0 a.words.now s.requires.4)

pub list_ranges-requires : goal.list_ranges-requires
list_ranges-requires c =
    let s = c in
    let a = s.args in
    let l = c.loop-v in
    (s.requires.2, l.invariant.0, stepping-ready a.tables.states a.tables.lists a.a a.tables.enter.now a.tables.sizes.now a.tables.accepting.now a.ways.before.now a.ways.ended.now a.tables.table.now (number_of a.set.now) s.requires.0 l.v l.base l.words c.loop-v-test.true l.invariant.1)

pub overflow_add-base : goal.overflow_add-base
overflow_add-base c =
    let s = c in
    let a = s.args in
    let l = c.loop-v in
    omega (arith, (stepping-ready a.tables.states a.tables.lists a.a a.tables.enter.now a.tables.sizes.now a.tables.accepting.now a.ways.before.now a.ways.ended.now a.tables.table.now (number_of a.set.now) s.requires.0 l.v l.base l.words c.loop-v-test.true l.invariant.1).few)

pub loop-v-preserved : goal.loop-v-preserved
loop-v-preserved c =
    let s = c in
    let a = s.args in
    let l = c.loop-v in
    let list-ranges = c.list_ranges in
    let test = c.loop-v-test.true in (
      list-ranges.auto.words ∙ l.invariant.0,
      stepping-turn a.tables.states a.tables.lists a.a a.tables.enter.now a.tables.sizes.now a.tables.accepting.now a.ways.before.now a.ways.ended.now a.tables.table.now (number_of a.set.now) s.requires.0 l.v l.base l.words test l.invariant.1 _ list-ranges.ensures,
    )

pub shape_of-words : goal.shape_of-words
shape_of-words c = c.loop-v.invariant.0 ∙ sym c.requires.3

pub returns : goal.returns
returns c =
    let s = c in
    let a = s.args in
    let l = c.loop-v in
    stepping-end a.tables.states a.tables.lists a.a a.tables.enter.now a.tables.sizes.now a.tables.accepting.now a.ways.before.now a.ways.ended.now a.tables.table.now (number_of a.set.now) s.requires.0 l.v l.base l.words (omega (arith, c.loop-v-test.false)) l.invariant.1
