-- `put_step` meets its contract: the next state is put into its row, or it is left out.
use Rattle.std.specs.Prelude.{◌≡◌, ℕ, ◌<◌, List, get_or}
use mathlib.Core.Path.{sym, ap, ◌∙◌, subst}
use Rattle.answering.specs.Ranks.{next_of}
use Rattle.answering.specs.StateSets.{rows_few, row_room, step-none, step-put}
use native.Mathlib.Omega.{arith}
use Rattle.answering.proofs.state_sets.put_step.Goals as goal

-- The next state that was read is that of the state with the rank r.
next-read : {s t : ℕ} (next kept : List ℕ) (r v : ℕ) → s ≡ get_or kept r 0 → t ≡ next_of next s v → t ≡ next_of next (get_or kept r 0) v
next-read next kept r v e f = f ∙ ap (λ s. next_of next s v) e

pub overflow_mul-from : goal.overflow_mul-from
overflow_mul-from c =
    let p = c.requires in
    let l = c.args.ranked.lent in
    omega (arith, c.from.ensures, l.inside c.args.r p.1, l.few, l.few-lists, l.given)

pub overflow_add-from : goal.overflow_add-from
overflow_add-from c =
    let p = c.requires in
    let l = c.args.ranked.lent in
    omega (arith, c.from.ensures, l.inside c.args.r p.1, l.few, l.few-lists, l.given, p.2)

pub offset_bounds-ranked-from : goal.offset_bounds-ranked-from
offset_bounds-ranked-from c =
    let p = c.requires in
    let l = c.args.ranked.lent in
    omega (arith, c.from.ensures, l.inside c.args.r p.1, l.few, l.few-lists, l.given, p.2)

pub bounds-ranked-from : goal.bounds-ranked-from
bounds-ranked-from c =
    let p = c.requires in
    let l = c.args.ranked.lent in
    omega (arith, c.from.ensures, l.inside c.args.r p.1, l.few, l.few-lists, l.given, p.2)

pub returns-then-ranked-t : goal.returns-then-ranked-t
returns-then-ranked-t c =
    let a = c.args in
    let t = next-read a.ranked.next.now a.ranked.kept.now a.r a.v c.from.ensures c.from-t.ensures in
    step-none (λ q (h, e, m). omega (arith, c.if-ranked-t.true))

pub overflow_mul-ranked : goal.overflow_mul-ranked
overflow_mul-ranked c =
    let p = c.requires in omega (arith, rows_few c.args.ranked.lent p.1)

pub overflow_add-ranked : goal.overflow_add-ranked
overflow_add-ranked c =
    let p = c.requires in omega (arith, rows_few c.args.ranked.lent p.1, p.2, c.args.ranked.lent.few-lists)

pub put-requires : goal.put-requires
put-requires c =
    let a = c.args in
    let p = c.requires in
    omega (arith, c.if-q-ranked.true, row_room a.ranked.words a.ranked.lists a.ranked.count a.sets.now p.0 p.1 p.2, a.ranked.lent.width)

pub returns-then-q-ranked : goal.returns-then-q-ranked
returns-then-q-ranked c =
    let a = c.args in
    let p = c.requires in
    let t = next-read a.ranked.next.now a.ranked.kept.now a.r a.v c.from.ensures c.from-t.ensures in
    let rank = c.from-q.ensures ∙ ap (λ t. get_or a.ranked.ranks.now t 0) t in
    rw c.put.ensures
    (step-put (subst (λ t. t < a.ranked.states) t c.if-ranked-t.false, rank, c.if-q-ranked.true) (λ q (h, e, m). e ∙ sym rank)
    (omega (arith, c.if-q-ranked.true, a.ranked.lent.width)) (row_room a.ranked.words a.ranked.lists a.ranked.count a.sets.now p.0 p.1 p.2))

pub returns-else-q-ranked : goal.returns-else-q-ranked
returns-else-q-ranked c =
    let a = c.args in
    let rank = c.from-q.ensures ∙ ap (λ t. get_or a.ranked.ranks.now t 0) (next-read a.ranked.next.now a.ranked.kept.now a.r a.v c.from.ensures c.from-t.ensures) in
    step-none (λ q (h, e, m). omega (arith, c.if-q-ranked.false, rank))
