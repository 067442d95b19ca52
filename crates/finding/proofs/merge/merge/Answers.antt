-- The classes are refined, numbered and put in place; rows and flags behind them are cleared.
use Rattle.std.specs.Prelude.{ℕ, ◌-◌, ◌*◌, ◌≤◌, List, length}
use mathlib.Core.Path.{refl}
use native.Mathlib.Omega.{arith}
use lib.ListN.{get_or-replicate}
use Rattle.theory.specs.Leaders.{leaders-at-most}
use Rattle.theory.specs.Refinement.{class_at}
use Rattle.finding.specs.TableLent.{TableLent}
use Rattle.finding.specs.MergeTold.{ClassNumbers, ClassesPut}
use Rattle.finding.specs.ClearedLaws.{rest-cleared}
use Rattle.finding.specs.MergeWritten.{refined-led, merge-told}
use Rattle.finding.proofs.merge.merge.Goals as goal

-- There are no more classes than states, and the table and the flags have room for all states.
sizes : {states lists count : ℕ} {table flags classes numbers table' flags' : List ℕ} → TableLent states lists table flags
    → ClassNumbers classes states numbers count → ClassesPut table flags lists states classes table' flags'
    → (count ≤ states) × (states ≤ 256) × (16 * states ≤ length table') × (states ≤ length flags')
sizes {states = states} {classes = classes} T n put = (
  omega (arith, n.count, leaders-at-most (class_at classes) states),
  T.rows.most,
  omega (arith, put.table-sized, T.rows.room, T.rows.most),
  omega (arith, put.flags-sized, T.flags-room, T.rows.most),
)

pub refine-requires : goal.refine-requires
refine-requires c =
    let p = c.requires in
    (λ s h. get_or-replicate 256 s 0 0 (omega (arith, p.rows.most)), refl)

pub number_classes-count-requires : goal.number_classes-count-requires
number_classes-count-requires c =
    let p = c.requires in
    (p.rows.most, refined-led c.refine.ensures, refl)

pub put_classes-requires : goal.put_classes-requires
put_classes-requires c = (c.requires, refined-led c.refine.ensures, c.number_classes-count.ensures.at)

pub overflow_mul-count : goal.overflow_mul-count
overflow_mul-count c = omega (arith, sizes c.requires c.number_classes-count.ensures c.put_classes.ensures)

pub offset_bounds-table-count : goal.offset_bounds-table-count
offset_bounds-table-count c = omega (arith, sizes c.requires c.number_classes-count.ensures c.put_classes.ensures)

pub slice_bounds-clear-count : goal.slice_bounds-clear-count
slice_bounds-clear-count c = omega (arith, sizes c.requires c.number_classes-count.ensures c.put_classes.ensures)

pub slice_bounds-clear-start : goal.slice_bounds-clear-start
slice_bounds-clear-start c = omega (arith, sizes c.requires c.number_classes-count.ensures c.put_classes.ensures)

pub overflow_sub-states : goal.overflow_sub-states
overflow_sub-states c = omega (arith, sizes c.requires c.number_classes-count.ensures c.put_classes.ensures)

pub slice_bounds-clear-count-2 : goal.slice_bounds-clear-count-2
slice_bounds-clear-count-2 c = omega (arith, sizes c.requires c.number_classes-count.ensures c.put_classes.ensures)

pub slice_bounds-clear-start-2 : goal.slice_bounds-clear-start-2
slice_bounds-clear-start-2 c = omega (arith, sizes c.requires c.number_classes-count.ensures c.put_classes.ensures)

pub overflow_sub-states-2 : goal.overflow_sub-states-2
overflow_sub-states-2 c = omega (arith, sizes c.requires c.number_classes-count.ensures c.put_classes.ensures)

pub returns : goal.returns
returns c =
    let count = c.number_classes-count.result in
    let left = c.args.states - count in
    let there = sizes c.requires c.number_classes-count.ensures c.put_classes.ensures in
    let table = rest-cleared (16 * count) (16 * left) c.put_classes.new.table (omega (arith, there)) _ c.clear.ensures in
    let flags = rest-cleared count left c.put_classes.new.flags (omega (arith, there)) _ c.clear-2.ensures in
    rw (table, flags) (merge-told c.requires c.refine.ensures c.put_classes.ensures c.number_classes-count.ensures.count)
