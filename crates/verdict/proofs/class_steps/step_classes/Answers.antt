use Rattle.std.specs.Prelude.{◌-◌, ◌*◌, ◌^◌, ◌<◌, ◌≤◌}
use mathlib.Core.Path.{refl, sym, ◌∙◌, subst}
use native.Mathlib.Omega.{arith}
use lib.Bits.{and_le_r}
use lib.Count.{count_trailing_zeros, trailing_le}
use Rattle.theory.specs.Places.{Member}
use Rattle.theory.specs.PlacesLaws.{members-below}
use Rattle.verdict.specs.ClassStepTurns.{classes-start, class-small, least-entered, sums-inside, classes-turn, classes-pass}
use Rattle.verdict.specs.ClassStepTurns.{classes-end, classes-none}
use Rattle.verdict.specs.TurnedColumns.{column_in, no-columns, Puts, put-column, columns-below}
use Rattle.verdict.specs.TurnedTurns.{column-room}
use Rattle.std.proofs.Common.{rules}
use Rattle.verdict.proofs.class_steps.step_classes.Goals as goal

pub overflow_add-a : goal.overflow_add-a
overflow_add-a c = omega (arith, c.requires.0)

pub offset_bounds-merged-a : goal.offset_bounds-merged-a
offset_bounds-merged-a c = omega (arith, c.requires.0)

pub bounds-merged-a : goal.bounds-merged-a
bounds-merged-a c = omega (arith, c.requires.0, c.requires.6)

pub loop-c-init : goal.loop-c-init
loop-c-init c =
    let s = c in
    let a = s.args in
    rw (c.into_iter-c-iterator.ensures.into_iter_gives, c.members-c-items.ensures) (
      search rules,
      search rules,
      members-below 64 _ (λ x m. omega (arith, s.requires.2, (s.requires.8.entered x m).1)),
      s.requires.11,
      classes-start a.n a.a a.k a.merged.now a.ended.now a.columns.now (column_in a.n a.words.now)
          (no-columns a.n a.words.now s.requires.12),
    )

pub offset_bounds-merged-c : goal.offset_bounds-merged-c
offset_bounds-merged-c c =
    let (some, is, left) = c.in-Some.ensures.steps in
    omega (arith, trailing_le 64 c.loop-c.c-iterator.rest)

pub bounds-merged-c : goal.bounds-merged-c
bounds-merged-c c =
    let (some, is, left) = c.in-Some.ensures.steps in
    let s = c in
    let l = c.loop-c in
    let d = some in
    let m = rw (← is) at (least-entered _ _ _ _ _ _ _ _ l.c-iterator.rest l.invariant.4 d l.invariant.2) in
    omega (arith, s.requires.2, s.requires.6, (s.requires.8.entered _ m).1)

pub join-states-requires : goal.join-states-requires
join-states-requires c =
    let (some, is, left) = c.in-Some.ensures.steps in
    let s = c in
    let l = c.loop-c in
    let d = some in
    let m = rw (← is) at (least-entered _ _ _ _ _ _ _ _ l.c-iterator.rest l.invariant.4 d l.invariant.2) in
    λ p i. omega (arith, s.requires.7, s.requires.8.led _ p m i)

pub overflow_mul-n : goal.overflow_mul-n
overflow_mul-n c =
    let (some, is, left) = c.in-Some.ensures.steps in
    let s = c in
    let l = c.loop-c in
    let d = some in
    let m = rw (← is) at (least-entered _ _ _ _ _ _ _ _ l.c-iterator.rest l.invariant.4 d l.invariant.2) in
    omega (arith, column-room s.args.k s.args.n _ c.in-Some.c (s.requires.8.entered _ m).1 s.requires.5 refl)

pub put_at-requires : goal.put_at-requires
put_at-requires c =
    let (some, is, left) = c.in-Some.ensures.steps in
    let s = c in
    let l = c.loop-c in
    let d = some in
    let m = rw (← is) at (least-entered _ _ _ _ _ _ _ _ l.c-iterator.rest l.invariant.4 d l.invariant.2) in
    let a = s.args in (
      l.invariant.3,
      subst (λ z. z < 2 ^ a.n) (sym c.join-states.ensures)
          (class-small a.n a.a a.k a.merged.now a.ended.now a.columns.now s.requires.8 s.requires.9 (omega (arith, s.requires.2)) _ m),
      s.requires.3,
      s.requires.4,
      column-room a.k a.n _ c.in-Some.c (s.requires.8.entered _ m).1 s.requires.5 refl,
    )

pub offset_bounds-ended-c : goal.offset_bounds-ended-c
offset_bounds-ended-c c =
    let (some, is, left) = c.in-Some.ensures.steps in
    omega (arith, trailing_le 64 c.loop-c.c-iterator.rest)

pub bounds-ended-c : goal.bounds-ended-c
bounds-ended-c c =
    let (some, is, left) = c.in-Some.ensures.steps in
    let s = c in
    let l = c.loop-c in
    let d = some in
    let m = rw (← is) at (least-entered _ _ _ _ _ _ _ _ l.c-iterator.rest l.invariant.4 d l.invariant.2) in
    omega (arith, s.requires.10.starts, (s.requires.8.entered _ m).1)

pub ended_class-alone-requires : goal.ended_class-alone-requires
ended_class-alone-requires c =
    let (some, is, left) = c.in-Some.ensures.steps in
    let s = c in
    let l = c.loop-c in
    let d = some in
    let m = rw (← is) at (least-entered _ _ _ _ _ _ _ _ l.c-iterator.rest l.invariant.4 d l.invariant.2) in
    let a = s.args in
    λ some q i.
    sums-inside a.n a.a a.k a.merged.now a.ended.now a.columns.now s.requires.8 s.requires.9 (omega (arith, s.requires.2))
    s.requires.10 _ m some q (subst (Member q) c.join-states.ensures i)

pub loop-c-preserved-then-states-ne0 : goal.loop-c-preserved-then-states-ne0
loop-c-preserved-then-states-ne0 c =
    let (some, is, left) = c.in-Some.ensures.steps in
    let s = c in
    let l = c.loop-c in
    let a = s.args in
    let joined = rw is at c.join-states.ensures in
    let few : a.k ≤ 64 = omega (arith, s.requires.2) in
    let m = least-entered _ _ _ _ _ _ _ _ l.c-iterator.rest l.invariant.4 some l.invariant.2 in
    let o = count_trailing_zeros 64 l.c-iterator.rest in
    let small =
    subst (λ z. z < 2 ^ a.n) (sym joined)
    (class-small a.n a.a a.k a.merged.now a.ended.now a.columns.now s.requires.8 s.requires.9 few o m) in
    let room = column-room a.k a.n (a.n * o) o (s.requires.8.entered o m).1 s.requires.5 refl in
    rw left (
      search rules,
      search rules,
      omega (arith, l.invariant.2, and_le_r l.c-iterator.rest (l.c-iterator.rest - 1)),
      c.put_at.auto.words ∙ l.invariant.3,
      classes-turn a.n a.a a.k a.merged.now a.ended.now a.columns.now s.requires.8 s.requires.9 few
          s.requires.4 s.requires.10 (column_in a.n l.words) (column_in a.n c.put_at.new.words) l.alone l.c-iterator.rest
          c.join-states.result c.ended_class-alone.result l.invariant.4 some l.invariant.2 joined (rw is at c.ended_class-alone.ensures)
          (put-column a.n (a.n * o) o c.join-states.result l.words c.put_at.new.words refl small room (rw is at c.put_at.ensures)),
    )

pub loop-c-preserved : goal.loop-c-preserved
loop-c-preserved c =
    let (some, is, left) = c.in-Some.ensures.steps in
    let s = c in
    let l = c.loop-c in
    let a = s.args in
    let joined = rw is at c.join-states.ensures in
    let few : a.k ≤ 64 = omega (arith, s.requires.2) in
    rw left (
      search rules,
      search rules,
      omega (arith, l.invariant.2, and_le_r l.c-iterator.rest (l.c-iterator.rest - 1)),
      l.invariant.3,
      classes-pass a.n a.a a.k a.merged.now a.ended.now a.columns.now s.requires.8 s.requires.9 few
          s.requires.4 s.requires.10 (column_in a.n l.words) l.alone l.c-iterator.rest l.invariant.4 some l.invariant.2
          (sym c.if-states-ne0.false ∙ joined),
    )

pub put_at-requires-2 : goal.put_at-requires-2
put_at-requires-2 c =
    let s = c in
    let l = c.loop-c in (
      l.invariant.3,
      members-below s.args.n l.alone l.invariant.4.alone-within,
      s.requires.3,
      s.requires.4,
      omega (arith, s.requires.4),
    )

pub shape_of-words : goal.shape_of-words
shape_of-words c = c.put_at-2.auto.words ∙ c.loop-c.invariant.3 ∙ sym c.requires.11

pub returns : goal.returns
returns c =
    let s = c in
    let a = s.args in
    let l = c.loop-c in
    let call = c.put_at-2 in
    let few : a.k ≤ 64 = omega (arith, s.requires.2) in
    let put : Puts 0 l.alone (column_in a.n l.words) (column_in a.n call.new.words) =
    put-column a.n 0 0 l.alone l.words call.new.words (omega arith) (members-below a.n l.alone l.invariant.4.alone-within)
    (omega (arith, s.requires.4)) call.ensures in (
      classes-end a.n a.a a.k a.merged.now a.ended.now a.columns.now s.requires.8 s.requires.9 few
          (column_in a.n l.words) (column_in a.n call.new.words) l.alone l.c-iterator.rest l.invariant.4 c.in-None.ensures.steps.0 put,
      columns-below a.k a.n call.new.words s.requires.3
          (classes-none a.n a.a a.k a.merged.now a.ended.now a.columns.now s.requires.8 s.requires.9 few
          (column_in a.n l.words) (column_in a.n call.new.words) l.alone l.c-iterator.rest s.requires.1 l.invariant.4 put),
    )
