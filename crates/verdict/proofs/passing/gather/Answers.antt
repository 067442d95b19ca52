use Rattle.std.specs.Prelude.{◌≡◌, ℕ, ◌+◌, ◌-◌, ◌*◌, ◌≤◌, get_or}
use mathlib.Core.Path.{refl, ◌∙◌, subst}
use Rattle.verdict.specs.PassingTurns.{Gathered, gathered-start, gathered-skip, gathered-more, words_inside}
use Rattle.verdict.specs.WordBits.{first-here, first-none}
use native.Mathlib.Omega.{arith}
use Rattle.std.proofs.lemmas.Bool.{or_parts}
use Rattle.verdict.proofs.passing.gather.Goals as goal

pub loop-v-init : goal.loop-v-init
loop-v-init c = (refl, gathered-start _ _ _ _ _ _ _ _)

pub offset_bounds-accepting-v : goal.offset_bounds-accepting-v
offset_bounds-accepting-v c = omega (arith, c.requires.0.few-lists)

pub bounds-accepting-v : goal.bounds-accepting-v
bounds-accepting-v c =
    let l = c.loop-v in
    let s = c in
    omega (arith, c.loop-v-test.true, s.requires.0.accepting-room)

pub overflow_mul-t : goal.overflow_mul-t
overflow_mul-t c =
    let s = c in
    omega (arith, s.requires.0.few-lists, s.requires.0.few-states, s.requires.0.few_words, s.requires.1)

pub overflow_add-t : goal.overflow_add-t
overflow_add-t c =
    let s = c in
    omega (arith, s.requires.0.few-lists, s.requires.0.few-states, s.requires.0.few_words, s.requires.1)

pub offset_bounds-table-t : goal.offset_bounds-table-t
offset_bounds-table-t c =
    let s = c in
    omega (arith, s.requires.0.few-lists, s.requires.0.few-states, s.requires.0.few_words, s.requires.1)

pub bounds-table-t : goal.bounds-table-t
bounds-table-t c =
    let s = c in
    let l = c.loop-v in
    omega (arith, c.loop-v-test.true, s.requires.0.few-lists, s.requires.0.table-room, s.requires.1)

pub join_state-changed-requires : goal.join_state-changed-requires
join_state-changed-requires c =
    let s = c in
    let a = s.args in
    let p = s.requires.0 in
    let l = c.loop-v in
    let v = l.v - 1 in
    let next = p.next a.t v s.requires.1 (omega (arith, c.loop-v-test.true)) in
    let few : (a.k ≤ 4) × (a.states ≤ 64 * a.k) = (p.few_words, p.few-states) in (
      p.few_words,
      omega (arith, few.0, few.1, s.requires.1),
      omega (arith, few.0, few.1, next),
      omega (arith, words_inside a.k a.states a.t s.requires.1, s.requires.2, l.invariant.0),
      omega (arith, words_inside a.k a.states (get_or a.table.now (16 * a.t + v) 0) next, s.requires.2, l.invariant.0),
    )

pub loop-v-preserved-then-accepting-v-eq1 : goal.loop-v-preserved-then-accepting-v-eq1
loop-v-preserved-then-accepting-v-eq1 c =
    let s = c in
    let a = s.args in
    let l = c.loop-v in
    let some = c.loop-v-test.true in
    let some-path = first-here (get_or a.accepting.now (l.v - 1 + 1) 0) c.if-accepting-v-eq1.true in
    let join-state = c.join_state-changed in (
      join-state.auto.passes ∙ l.invariant.0,
      gathered-more a.k a.states a.lists (l.v - 1) l.v a.accepting.now a.table.now a.t a.passes.now l.passes _
          l.changed join-state.result _ (omega (arith, some)) (omega (arith, some)) s.requires.1 s.requires.0.next
          (λ e. or_parts _ _ e) some-path join-state.ensures l.invariant.1,
    )

pub loop-v-preserved : goal.loop-v-preserved
loop-v-preserved c =
    let a = c.args in
    let l = c.loop-v in
    let no-path = first-none (get_or a.accepting.now (l.v - 1 + 1) 0) c.if-accepting-v-eq1.false in (
      l.invariant.0,
      gathered-skip a.k a.states a.lists (l.v - 1) l.v a.accepting.now a.table.now a.t a.passes.now l.passes
          l.changed (omega (arith, c.loop-v-test.true)) no-path l.invariant.1,
    )

pub shape_of-passes : goal.shape_of-passes
shape_of-passes c = c.loop-v.invariant.0

pub returns : goal.returns
returns c =
    let a = c.args in
    let l = c.loop-v in
    let e : l.v ≡ 0 = omega (arith, c.loop-v-test.false) in
    subst
    (λ (z : ℕ). Gathered a.k a.states a.lists z a.accepting.now a.table.now a.t a.passes.now l.passes l.changed)
    e l.invariant.1
