use Rattle.std.specs.Prelude.{ℕ, ◌+◌, length, get_or, set}
use mathlib.Core.Bool.{false≢true}
use mathlib.Core.Path.{refl, sym, ap, ◌∙◌, subst}
use lib.ListN.{length-set}
use Rattle.verdict.specs.ClassSumsTurns.{reached_by, SumsPut, put-start, put-none, put-turn, put_all}
use Rattle.verdict.specs.WordBits.{zeros-front, zeros_size}
use native.Mathlib.Omega.{arith}
use borrow.Author.Rules.{rules}
use Rattle.verdict.proofs.class_sums.class_sums.Goals as goal
use Rattle.verdict.proofs.class_sums.class_sums.Goals.{else-set-ne0, then-set-ne0+else-ended-at}

pub overflow_add-quarters : goal.overflow_add-quarters
overflow_add-quarters c = omega (arith, c.requires.1)

pub overflow_mul-quarters : goal.overflow_mul-quarters
overflow_mul-quarters c = omega (arith, c.requires.1)

pub loop-c-init : goal.loop-c-init
loop-c-init c =
    let s = c in
    (refl, put-start s.args.states _ s.args.ends.now _ (omega (arith, s.requires.5, zeros_size 128 s.args.ended.now c.fill.new.self s.requires.5 c.fill.ensures.len)) (zeros-front 128 s.args.ended.now c.fill.new.self _ s.requires.5 c.fill.ensures.len (λ i h. search rules)))

pub offset_bounds-ends-c : goal.offset_bounds-ends-c
offset_bounds-ends-c c = omega (arith, c.loop-c-test.true, c.requires.3)

pub bounds-ends-c : goal.bounds-ends-c
bounds-ends-c c = omega (arith, c.loop-c-test.true, c.requires.3)

pub overflow_mul-quarters-then-set-ne0 : goal.overflow_mul-quarters-then-set-ne0
overflow_mul-quarters-then-set-ne0 c = omega (arith, c.requires.1)

pub overflow_add-at : goal.overflow_add-at
overflow_add-at c = omega (arith, c.loop-c.invariant.1.bounded, c.loop-c-test.true, c.requires.1, c.requires.3)

pub returns-then-ended-at : goal.returns-then-ended-at
returns-then-ended-at c = λ e. absurd (false≢true e)

pub class_words-requires : goal.class_words-requires
class_words-requires c =
    let s = c in
    let l = c.loop-c in (
      s.requires.1,
      s.requires.4,
      omega (arith, l.invariant.1.begins, l.invariant.1.fits),
      λ q v h m.
          let low = s.requires.8 v l.c m in (
            omega (arith, low, s.requires.2),
            omega (arith, low, h, s.requires.2, s.requires.6),
            omega (arith, s.requires.7 q v h low, s.requires.1),
          ),
    )

pub sum_list-requires : goal.sum_list-requires
sum_list-requires c =
    let l = c.loop-c in (
      omega (arith, c.requires.1),
      omega (arith, l.invariant.1.begins),
      omega (arith, c.if-ended-at.false, c.class_words.auto.ended),
    )

pub offset_bounds-ended-c : goal.offset_bounds-ended-c
offset_bounds-ended-c c = omega (arith, c.loop-c-test.true, c.requires.3)

pub bounds-ended-c : goal.bounds-ended-c
bounds-ended-c c =
    let l = c.loop-c in
    omega (
      arith,
      l.invariant.1.begins,
      l.invariant.1.fits,
      c.sum_list.auto.ended,
      c.class_words.auto.ended,
      c.loop-c-test.true,
      c.requires.3,
    )

pub overflow_mul-at : goal.overflow_mul-at
overflow_mul-at c = omega (arith, c.requires.1)

pub overflow_add-at-then-set-ne0 : goal.overflow_add-at-then-set-ne0
overflow_add-at-then-set-ne0 c = omega (arith, c.loop-c.invariant.1.bounded, c.loop-c-test.true, c.requires.1, c.requires.3)

pub loop-c-preserved : goal.loop-c-preserved
loop-c-preserved c =
    let s = c in
    let a = s.args in
    let l = c.loop-c in
    let test = c.loop-c-test.true in
    let word : ℕ → ℕ → ℕ = λ d. reached_by a.passes.now a.table.now (get_or a.ends.now d 0) in (
      (elim c.if-set-ne0.branch [ then-set-ne0+else-ended-at w ↦ ap length w.ended-is ∙ length-set w.sum_list.new.ended _ _ ∙ w.sum_list.auto.ended ∙ w.class_words.auto.ended ∙ l.invariant.0 | else-set-ne0 w ↦ ap length w.ended-is ∙ l.invariant.0 ]),
      (elim c.if-set-ne0.branch [
        | then-set-ne0+else-ended-at w ↦ subst (λ z. SumsPut a.states word a.ends.now z (l.c + 1) c.if-set-ne0.at) (sym w.ended-is)
            (subst (λ z. SumsPut a.states word a.ends.now (set w.sum_list.new.ended l.c l.at) (l.c + 1) z) (sym w.at-is)
            (put-turn a.states word a.ends.now l.ended w.class_words.new.ended w.sum_list.new.ended l.c l.at s.requires.1
            (omega (arith, test, s.requires.3)) w.if-set-ne0.true (omega (arith, w.if-ended-at.false)) (w.sum_list.auto.ended ∙ w.class_words.auto.ended)
            w.class_words.ensures w.sum_list.ensures l.invariant.1))
        | else-set-ne0 w ↦ subst (λ z. SumsPut a.states word a.ends.now z (l.c + 1) c.if-set-ne0.at) (sym w.ended-is)
            (subst (λ z. SumsPut a.states word a.ends.now l.ended (l.c + 1) z) (sym w.at-is)
            (put-none a.states word a.ends.now l.ended l.c l.at (omega (arith, test, s.requires.3)) w.if-set-ne0.false l.invariant.1))
      ]),
    )

pub returns : goal.returns
returns c =
    let s = c in
    let a = s.args in
    let l = c.loop-c in
    λ e sizes accepting classes ending p.
    put_all a.states a.lists a.k accepting a.table.now a.passes.now a.ends.now l.ended l.c l.at s.requires.1
    (omega (arith, c.loop-c-test.false)) s.requires.3 (omega (arith, l.invariant.1.begins, l.invariant.1.fits))
    (λ i. search rules) s.requires.7 s.requires.8 s.requires.2 l.invariant.1 p sizes classes ending
