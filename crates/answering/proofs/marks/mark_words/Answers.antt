use Rattle.std.specs.Prelude.{◌≡◌, ◌*◌, ◌<◌, length}
use mathlib.Core.Path.{refl, sym, ap, ◌∙◌}
use Rattle.answering.specs.Marked.{ones}
use Rattle.answering.specs.MarksLaws.{mark_of}
use Rattle.answering.specs.Marks.{meets, marks_of}
use Rattle.answering.specs.MarksSteps.{meets_word, mark-told, mark-small, marks-stored, marks-counted}
use native.Mathlib.Omega.{arith}
use Rattle.answering.proofs.marks.mark_words.Goals as goal

pub loop-y-init : goal.loop-y-init
unfolding marks_of ones
loop-y-init c = (omega arith, refl, refl)

pub overflow_add-count : goal.overflow_add-count
overflow_add-count c =
    let small = mark-small _ (c.from-m.ensures ∙ mark-told _) in omega (arith, c.loop-y.invariant.0, c.from-count.ensures)

pub loop-y-preserved : goal.loop-y-preserved
loop-y-preserved c =
    let a = c.args in
    let l = c.loop-y in
    let m = c.from-m.result in
    let e : m ≡ mark_of (meets a.reached.now a.accepting.now (1 * l.y) 1) =
    c.from-m.ensures ∙ mark-told _ ∙ ap mark_of (sym (meets_word a.reached.now a.accepting.now l.y)) in
    let small = mark-small _ e in
    let h : l.y < length a.marks.now = omega (arith, c.requires.marks-fit) in (
      omega (arith, l.invariant.0, c.from-count.ensures),
      marks-stored 1 a.reached.now a.accepting.now l.y m e a.marks.now l.marks h l.invariant.1,
      rw c.from-count.ensures (marks-counted 1 a.reached.now a.accepting.now l.y m e l.count l.invariant.2),
    )

pub returns : goal.returns
returns c =
    let v = c.loop-y.invariant in
    let e : c.loop-y.y ≡ c.args.recordings = omega arith in
    record { set = λ g. rw e at v.1; counted = λ g. rw e at v.2; unfit = λ n. absurd (n c.requires) }
