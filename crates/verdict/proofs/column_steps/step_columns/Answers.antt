use Rattle.std.specs.Prelude.{◌+◌, ◌*◌, ◌^◌, ◌<◌, ◌≤◌, get_or}
use mathlib.Core.Path.{sym, ◌∙◌, subst}
use native.Mathlib.Nat.{mul-add, mul-le-mul_left}
use Rattle.theory.specs.PlacesLaws.{member_below}
use Rattle.verdict.specs.ColumnTurns.{lists-start, lists-room, lists-turn, alone-within, ends-below}
use Rattle.verdict.specs.ColumnTurns.{lists-empty, lists-end}
use Rattle.verdict.specs.Sums.{quarters, SummedBy}
use Rattle.verdict.specs.SumsLaws.{next-list, list-sums, quarters-below}
use Rattle.verdict.specs.CoverBounds.{few-columns}
use Rattle.verdict.specs.TurnedColumns.{column_in, no-columns, Puts, put-column, columns-below}
use Rattle.verdict.specs.Ways.{columns_of}
use native.Mathlib.Omega.{arith}
use Rattle.verdict.proofs.column_steps.step_columns.Goals as goal

pub loop-v-init : goal.loop-v-init
loop-v-init c =
    let s = c in
    (s.requires.6, lists-start _ _ _ _ _ _ _ _ _ (no-columns s.args.tables.states s.args.words.now s.requires.7), omega arith)

pub overflow_add-each : goal.overflow_add-each
overflow_add-each c = omega (arith, c.requires.9)

pub overflow_mul-each : goal.overflow_mul-each
overflow_mul-each c = omega (arith, c.requires.9)

pub overflow_mul-sums : goal.overflow_mul-sums
overflow_mul-sums c = omega (arith, c.requires.0.few)

pub overflow_add-x : goal.overflow_add-x
overflow_add-x c = omega (arith, c.loop-v-test.true, c.requires.0.few)

pub offset_bounds-tables-x : goal.offset_bounds-tables-x
offset_bounds-tables-x c = omega (arith, c.loop-v-test.true, c.requires.0.few)

pub bounds-tables-x : goal.bounds-tables-x
bounds-tables-x c =
    let s = c in
    omega (arith, c.loop-v-test.true, s.requires.0.room)

pub overflow_mul-x : goal.overflow_mul-x
overflow_mul-x c =
    let s = c in
    omega (arith, c.loop-v-test.true, s.requires.0.few)

pub overflow_add-x-in-loop-v : goal.overflow_add-x-in-loop-v
overflow_add-x-in-loop-v c =
    let s = c in
    omega (arith, c.loop-v-test.true, s.requires.0.few, s.requires.1)

pub offset_bounds-tables-x-in-loop-v : goal.offset_bounds-tables-x-in-loop-v
offset_bounds-tables-x-in-loop-v c =
    let s = c in
    omega (arith, c.loop-v-test.true, s.requires.0.few, s.requires.1)

pub bounds-tables-x-in-loop-v : goal.bounds-tables-x-in-loop-v
bounds-tables-x-in-loop-v c =
    let s = c in
    omega (arith, c.loop-v-test.true, s.requires.1, s.requires.2)

pub offset_bounds-tables-x-in-loop-v-2 : goal.offset_bounds-tables-x-in-loop-v-2
offset_bounds-tables-x-in-loop-v-2 c =
    let s = c in
    omega (arith, c.loop-v-test.true, s.requires.0.few)

pub bounds-tables-x-in-loop-v-2 : goal.bounds-tables-x-in-loop-v-2
bounds-tables-x-in-loop-v-2 c =
    let s = c in
    omega (arith, c.loop-v-test.true, s.requires.3)

pub list_columns-ends-requires : goal.list_columns-ends-requires
list_columns-ends-requires c =
    let s = c in
    let l = c.loop-v in
    let h = c.loop-v-test.true in
    let size = get_or s.args.tables.sizes.now (l.v + 1) 0 in
    let room : l.base + size + 1 ≤ (columns_of s.args.ways.way) =
    omega (arith, s.requires.4, lists-room _ _ _ _ _ _ _ _ _ l.base l.alone l.v h l.invariant.1) in (
      omega (arith, h, s.requires.0.few),
      omega (arith, s.requires.0.small l.v h),
      omega (arith, room, s.requires.13),
      λ o p k m. s.requires.5 l.v o p h k m,
      l.invariant.0,
      s.requires.8,
      s.requires.9,
      omega (arith, s.requires.10, mul-le-mul_left s.args.tables.states room),
      λ q o k m. s.requires.11 q o (omega (arith, room)) m,
      omega (arith, h, s.requires.14),
    )

pub ended_of-alone-requires : goal.ended_of-alone-requires
ended_of-alone-requires c =
    let s = c in
    let l = c.loop-v in
    let h = c.loop-v-test.true in
    let list = c.list_columns-ends in
    let below : list.result < 2 ^ s.args.tables.states =
    ends-below _ _ _ _ _ _ _ _ (columns_of s.args.ways.way) s.args.tables.states _ _ l.base l.alone l.v list.result h l.invariant.1 s.requires.0 s.requires.4
    s.requires.5 s.requires.11 list.ensures in
    λ q m.
    omega (
      arith,
      l.invariant.2,
      member_below s.args.tables.states list.result q below m,
      next-list (16 * quarters s.args.tables.states) l.v s.args.tables.lists h,
      s.requires.15.room,
    )

pub overflow_add-sums : goal.overflow_add-sums
overflow_add-sums c =
    let s = c in
    let l = c.loop-v in
    let few : l.v ≤ 16 = omega (arith, s.requires.0.few, c.loop-v-test.true) in
    omega (arith, l.invariant.2, s.requires.0.few, s.requires.9, mul-le-mul_left (16 * quarters s.args.tables.states) few)

pub overflow_add-base : goal.overflow_add-base
overflow_add-base c =
    let s = c in
    let l = c.loop-v in
    omega (arith, s.requires.4, few-columns (columns_of s.args.ways.way) s.args.tables.states s.requires.8 s.requires.10, lists-room _ _ _ _ _ _ _ _ _ l.base l.alone l.v c.loop-v-test.true l.invariant.1)

pub loop-v-preserved : goal.loop-v-preserved
loop-v-preserved c =
    let s = c in
    let l = c.loop-v in
    let h = c.loop-v-test.true in
    let list = c.list_columns-ends in
    let below : list.result < 2 ^ s.args.tables.states =
    ends-below _ _ _ _ _ _ _ _ (columns_of s.args.ways.way) s.args.tables.states _ _ l.base l.alone l.v list.result h l.invariant.1 s.requires.0 s.requires.4
    s.requires.5 s.requires.11 list.ensures in (
      list.auto.words ∙ l.invariant.0,
      lists-turn s.args.tables.lists s.args.a s.args.tables.enter.now s.args.tables.sizes.now s.args.tables.accepting.now s.args.ways.before.now
          s.args.ways.ended.now s.args.columns.now (column_in s.args.tables.states l.words) _ l.base l.alone l.v list.result h
          l.invariant.1 (omega (arith, list.type_inv)) list.ensures (s.requires.0.small l.v h) c.ended_of-alone.result
          (c.ended_of-alone.ensures.exact (λ q. get_or s.args.ways.ended.now (64 * l.v + q) 0) (quarters s.args.tables.states) (omega arith)
          (subst (λ z. SummedBy (λ q. get_or s.args.ways.ended.now (64 * l.v + q) 0) z (quarters s.args.tables.states) s.args.ways.ended.now)
          (sym l.invariant.2) (list-sums s.args.tables.lists s.args.tables.states l.v s.args.ways.ended.now h s.requires.15))
          (quarters-below s.args.tables.states list.result below)),
      omega (arith, l.invariant.2, mul-add (16 * quarters s.args.tables.states) l.v 1),
    )

pub put_at-requires : goal.put_at-requires
put_at-requires c =
    let s = c in
    let l = c.loop-v in (
      l.invariant.0,
      alone-within _ _ _ _ _ _ _ _ _ s.args.tables.states _ l.base l.alone l.v l.invariant.1 s.requires.0 s.requires.4 s.requires.5 s.requires.11
          s.requires.12,
      s.requires.8,
      s.requires.9,
      omega (arith, s.requires.9),
    )

pub shape_of-words : goal.shape_of-words
shape_of-words c = c.put_at.auto.words ∙ c.loop-v.invariant.0 ∙ sym c.requires.6

pub returns : goal.returns
returns c =
    let s = c in
    let l = c.loop-v in
    let call = c.put_at in
    let small =
    alone-within _ _ _ _ _ _ _ _ _ s.args.tables.states _ l.base l.alone l.v l.invariant.1 s.requires.0 s.requires.4 s.requires.5 s.requires.11
    s.requires.12 in
    let put : Puts 0 l.alone (column_in s.args.tables.states l.words) (column_in s.args.tables.states call.new.words) =
    put-column s.args.tables.states 0 0 l.alone l.words call.new.words (omega arith) small (omega (arith, s.requires.9)) call.ensures in (
      lists-end _ _ _ _ _ _ _ _ _ _ l.base l.alone l.v c.loop-v-test.false l.invariant.1 put s.requires.0 s.requires.5,
      columns-below (columns_of s.args.ways.way) s.args.tables.states call.new.words s.requires.8
          (lists-empty _ _ _ _ _ _ _ _ (columns_of s.args.ways.way) _ _ l.base l.alone l.v l.invariant.1 s.requires.4 put),
    )
