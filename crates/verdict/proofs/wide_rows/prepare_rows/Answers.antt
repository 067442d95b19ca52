use Rattle.std.specs.Prelude.{◌≡◌, ℕ, ◌+◌, get_or}
use mathlib.Core.Bool.{false≢true}
use mathlib.Core.Path.{refl, sym, ap, ◌∙◌, subst}
use Rattle.verdict.specs.Tables.{occupied}
use Rattle.verdict.specs.TablesLaws.{occupied-more}
use Rattle.verdict.specs.ColumnOffsets.{occupied-room}
use Rattle.verdict.specs.WideRows.{RowsPrepared}
use Rattle.verdict.specs.WideRowsPrepared.{preparing-start, preparing-turn}
use Rattle.verdict.specs.WordBits.{zeros-front, zeros_size}
use native.Mathlib.Omega.{arith}
use Rattle.std.proofs.Common.{rules}
use Rattle.verdict.proofs.wide_rows.prepare_rows.Goals as goal

pub loop-v-init : goal.loop-v-init
unfolding occupied
loop-v-init c =
    let s = c in
    let p = s.requires in
    let a = s.args in (
      refl,
      refl,
      preparing-start a.follow.now a.enter.now a.sizes.now a.accepting.now _
          (zeros-front 352 a.rows.now c.fill.new.self _ p.5 c.fill.ensures.len (λ i h. search rules)),
    )

pub list_steps-requires : goal.list_steps-requires
list_steps-requires c =
    let s = c in
    let a = s.args in
    let p = s.requires in
    let l = c.loop-v in
    let room = zeros_size 352 a.rows.now c.fill.new.self p.5 c.fill.ensures.len in
    let h = c.loop-v-test.true in (
      omega (arith, h, p.0.few),
      omega (arith, p.0.small l.v h),
      omega (arith, l.invariant.0, occupied-room a.sizes.now l.v a.lists h, p.1),
      omega (arith, h, p.2),
      omega (arith, l.invariant.1, room, p.5),
    )

pub returns-then-not-list_steps : goal.returns-then-not-list_steps
returns-then-not-list_steps c = λ e. absurd (false≢true e)

pub list_enters-requires : goal.list_enters-requires
list_enters-requires c =
    let s = c in
    let test = c.loop-v-test in
    let list_steps = c.list_steps in
    let a = s.args in
    let p = s.requires in
    let l = c.loop-v in
    let room = zeros_size 352 a.rows.now c.fill.new.self p.5 c.fill.ensures.len in
    let h = test.true in (
      omega (arith, h, p.0.few),
      omega (arith, p.0.small l.v h),
      omega (arith, l.invariant.0, occupied-room a.sizes.now l.v a.lists h, p.1),
      omega (arith, h, p.3),
      omega (arith, list_steps.auto.rows, l.invariant.1, room, p.5),
    )

pub add_places-requires : goal.add_places-requires
add_places-requires c =
    let s = c in
    let test = c.loop-v-test in
    let list-enters = c.list_enters in
    let list_steps = c.list_steps in
    let a = s.args in
    let p = s.requires in
    let l = c.loop-v in
    let room = zeros_size 352 a.rows.now c.fill.new.self p.5 c.fill.ensures.len in
    let h = test.true in (
      omega (arith, p.0.small l.v h),
      omega (arith, l.invariant.0, occupied-room a.sizes.now l.v a.lists h, p.1),
      omega (arith, list-enters.auto.rows, list_steps.auto.rows, l.invariant.1, room, p.5, h, p.0.few),
    )

pub overflow_add-base : goal.overflow_add-base
overflow_add-base c =
    let s = c in
    let l = c.loop-v in
    let a = s.args in
    let test = c.loop-v-test in
    let p = s.requires in
    omega (arith, l.invariant.0, occupied-room a.sizes.now l.v a.lists test.true, p.1)

pub loop-v-preserved : goal.loop-v-preserved
loop-v-preserved c =
    let s = c in
    let test = c.loop-v-test in
    let add-places = c.add_places in
    let list-enters = c.list_enters in
    let list_steps = c.list_steps in
    let p = s.requires in
    let if1 = c.if-not-list_steps in
    let a = s.args in
    let l = c.loop-v in
    let room = zeros_size 352 a.rows.now c.fill.new.self p.5 c.fill.ensures.len in
    let h = test.true in (
      ap (λ z. z + get_or a.sizes.now (l.v + 1) 0) l.invariant.0 ∙ sym (occupied-more a.sizes.now l.v),
      add-places.auto.rows ∙ list-enters.auto.rows ∙ list_steps.auto.rows ∙ l.invariant.1,
      preparing-turn l.v l.base a.follow.now a.enter.now a.sizes.now a.accepting.now l.rows
          list_steps.new.rows list-enters.new.rows add-places.new.rows l.invariant.0
          (omega (arith, h, p.0.few)) (list_steps.ensures if1.false) list-enters.ensures add-places.ensures
          l.invariant.2,
    )

pub returns : goal.returns
returns c =
    let s = c in
    let a = s.args in
    let l = c.loop-v in
    let e : l.v ≡ a.lists = omega (arith, c.loop-v-test.false) in
    λ t. subst (λ (z : ℕ). RowsPrepared z a.follow.now a.enter.now a.sizes.now a.accepting.now l.rows) e
    l.invariant.2.prepared
