use Rattle.std.specs.Prelude.{◌+◌, ◌-◌, ◌*◌, ◌^◌, length}
use mathlib.Core.Path.{refl, sym, ap, ◌∙◌}
use native.Mathlib.Nat.{zero-mul}
use lib.Count.{count_trailing_zeros, trailing_le}
use lib.Bits.{and_le_r}
use Rattle.places.specs.Words.{number_of}
use Rattle.verdict.specs.CoverTold.{Gains}
use Rattle.verdict.specs.CoverLoops.{gains-none}
use Rattle.verdict.specs.ColumnLists.{columns-start, least-inside, columns-turn, columns-end, column-within}
use Rattle.verdict.specs.TurnedColumns.{column_in, put-column}
use Rattle.verdict.specs.TurnedTurns.{column-room}
use native.Mathlib.Omega.{arith}
use Rattle.std.proofs.Common.{rules}
use Rattle.verdict.proofs.column_steps.list_columns.Goals as goal
use Rattle.verdict.proofs.column_steps.list_columns.Goals.{else-states-ne0, then-states-ne0}

pub inner-requires : goal.inner-requires
inner-requires c = c.requires.1

pub loop-i-init : goal.loop-i-init
loop-i-init c =
    let s = c in
    rw (c.into_iter-i-iterator.ensures.into_iter_gives, c.members-i-items.ensures) (
      search rules,
      search rules,
      omega arith,
      s.requires.4,
      columns-start s.args.v s.args.size s.args.base s.args.entered s.args.accepting s.args.before.now
          s.args.columns.now (column_in s.args.n s.args.words.now) c.inner.result c.inner.ensures,
    )

pub overflow_add-p : goal.overflow_add-p
overflow_add-p c =
    let (some, is, left) = c.in-Some.ensures.steps in
    omega (arith, trailing_le 64 c.loop-i.i-iterator.rest)

pub overflow_mul-v : goal.overflow_mul-v
overflow_mul-v c = omega (arith, c.requires.0)

pub overflow_add-v : goal.overflow_add-v
overflow_add-v c =
    let (some, is, left) = c.in-Some.ensures.steps in
    omega (arith, trailing_le 64 c.loop-i.i-iterator.rest, c.requires.0)

pub offset_bounds-before-v : goal.offset_bounds-before-v
offset_bounds-before-v c =
    let (some, is, left) = c.in-Some.ensures.steps in
    omega (arith, trailing_le 64 c.loop-i.i-iterator.rest, c.requires.0)

pub bounds-before-v : goal.bounds-before-v
bounds-before-v c =
    let (some, is, left) = c.in-Some.ensures.steps in
    let s = c in
    let l = c.loop-i in
    omega (arith, least-inside _ _ _ _ _ _ _ _ _ _ l.i-iterator.rest some l.invariant.2 l.invariant.4, s.requires.1, s.requires.9)

pub joined-states-requires : goal.joined-states-requires
joined-states-requires c o m =
    let (some, is, left) = c.in-Some.ensures.steps in
    let s = c in
    let l = c.loop-i in
    let h = rw (← is) at (least-inside _ _ _ _ _ _ _ _ _ _ l.i-iterator.rest some l.invariant.2 l.invariant.4) in
    omega (arith, s.requires.2, s.requires.3 o (1 + c.in-Some.i) (omega (arith, h, s.requires.1)) m)

pub ending-over-requires : goal.ending-over-requires
ending-over-requires c =
    let (some, is, left) = c.in-Some.ensures.steps in
    let s = c in
    let l = c.loop-i in
    omega (arith, least-inside _ _ _ _ _ _ _ _ _ _ l.i-iterator.rest some l.invariant.2 l.invariant.4, s.requires.1)

pub overflow_add-base : goal.overflow_add-base
overflow_add-base c =
    let (some, is, left) = c.in-Some.ensures.steps in
    let s = c in
    let l = c.loop-i in
    omega (arith, least-inside _ _ _ _ _ _ _ _ _ _ l.i-iterator.rest some l.invariant.2 l.invariant.4, s.requires.2)

pub overflow_mul-n : goal.overflow_mul-n
overflow_mul-n c =
    let (some, is, left) = c.in-Some.ensures.steps in
    let s = c in
    let l = c.loop-i in
    let h = rw (← is) at (least-inside _ _ _ _ _ _ _ _ _ _ l.i-iterator.rest some l.invariant.2 l.invariant.4) in
    omega (
      arith,
      column-room (s.args.base + s.args.size + 1) s.args.n _ (s.args.base + (1 + c.in-Some.i))
          (omega (arith, h)) s.requires.7 refl,
    )

pub put_at-requires : goal.put_at-requires
put_at-requires c =
    let (some, is, left) = c.in-Some.ensures.steps in
    let s = c in
    let l = c.loop-i in
    let h = rw (← is) at (least-inside _ _ _ _ _ _ _ _ _ _ l.i-iterator.rest some l.invariant.2 l.invariant.4) in (
      l.invariant.3,
      column-within s.args.n s.args.v s.args.size s.args.base s.args.before.now s.args.columns.now s.requires.1
          s.requires.3 s.requires.8 _ c.joined-states.result h c.joined-states.ensures,
      s.requires.5,
      s.requires.6,
      column-room (s.args.base + s.args.size + 1) s.args.n _ (s.args.base + (1 + c.in-Some.i)) (omega (arith, h))
          s.requires.7 refl,
    )

pub loop-i-preserved : goal.loop-i-preserved
loop-i-preserved c =
    let (some, is, left) = c.in-Some.ensures.steps in
    let s = c in
    let l = c.loop-i in
    let d = some in
    let joined = c.joined-states in
    let h = least-inside _ _ _ _ _ _ _ _ _ _ l.i-iterator.rest d l.invariant.2 l.invariant.4 in
    let o = s.args.base + (1 + count_trailing_zeros 64 l.i-iterator.rest) in
    let at = s.args.n * o in
    let room = column-room (s.args.base + s.args.size + 1) s.args.n at o (omega (arith, h)) s.requires.7 refl in
    let small =
    column-within s.args.n s.args.v s.args.size s.args.base s.args.before.now s.args.columns.now s.requires.1
    s.requires.3 s.requires.8 _ joined.result h (rw is at joined.ensures) in
    let gains : Gains l.words (joined.result * 2 ^ at) c.if-states-ne0.words =
    (elim c.if-states-ne0.branch [ then-states-ne0 w ↦ ap number_of w.words-is ∙ (rw is at w.put_at.ensures) | else-states-ne0 w ↦ ap number_of w.words-is ∙ gains-none l.words _ (ap (λ z. z * 2 ^ at) w.if-states-ne0.false ∙ zero-mul (2 ^ at)) ]) in
    rw left (
      search rules,
      search rules,
      omega (arith, l.invariant.2, and_le_r l.i-iterator.rest (l.i-iterator.rest - 1)),
      (elim c.if-states-ne0.branch [ then-states-ne0 w ↦ ap length w.words-is ∙ w.put_at.auto.words ∙ l.invariant.3 | else-states-ne0 w ↦ ap length w.words-is ∙ l.invariant.3 ]),
      columns-turn s.args.v s.args.size s.args.base s.args.entered s.args.accepting s.args.before.now
          s.args.columns.now _ (column_in s.args.n l.words) (column_in s.args.n c.if-states-ne0.words) l.ends l.i-iterator.rest
          joined.result c.ending-over.result d l.invariant.2 (rw is at joined.ensures) (rw is at c.ending-over.ensures)
          (put-column s.args.n at o joined.result l.words c.if-states-ne0.words refl small room gains) l.invariant.4,
    )

pub shape_of-words : goal.shape_of-words
shape_of-words c = c.loop-i.invariant.3 ∙ sym c.requires.4

pub returns : goal.returns
returns c =
    let l = c.loop-i in
    columns-end _ _ _ _ _ _ _ _ _ l.ends l.i-iterator.rest c.in-None.ensures.steps.0 l.invariant.4
