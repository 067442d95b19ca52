use Rattle.std.specs.Prelude.{◌≡◌, ◌<◌, length}
use mathlib.Core.Path.{refl, subst}
use Rattle.answering.specs.Marked.{ones}
use Rattle.answering.specs.Pairs.{row_below}
use Rattle.answering.specs.Marks.{marks_of, Markable}
use Rattle.answering.specs.MarksSteps.{mark-small, marks-stored, marks-counted}
use native.Mathlib.Omega.{arith}
use Rattle.answering.proofs.marks.mark.Goals as goal

pub returns-then-not-sufficing : goal.returns-then-not-sufficing
returns-then-not-sufficing c =
    let n = c.sufficing.ensures.unfit c.if-not-sufficing.true in
    record { set = λ f. absurd (n f); counted = λ f. absurd (n f); unfit = λ m. (refl, refl) }

pub mark_words-requires : goal.mark_words-requires
mark_words-requires c =
    let a = c.args in
    subst (λ w. Markable w a.recordings a.reached.now a.marks.now) c.if-per-eq1.true (c.sufficing.ensures.fits c.if-not-sufficing.false)

pub returns-then-per-eq1 : goal.returns-then-per-eq1
returns-then-per-eq1 c =
    let a = c.args in
    let e : a.words ≡ 1 = c.if-per-eq1.true in
    rw e c.mark_words.ensures

pub loop-y-init : goal.loop-y-init
unfolding marks_of ones
loop-y-init c = (omega arith, refl, refl)

pub overflow_mul-per : goal.overflow_mul-per
overflow_mul-per c =
    let r = row_below c.args.words c.args.recordings {y = c.loop-y.y} (omega arith) in
    omega (arith, (c.sufficing.ensures.fits c.if-not-sufficing.false).room, c.well_formed.0.0)

pub mark_of-m-requires : goal.mark_of-m-requires
mark_of-m-requires c =
    let r = row_below c.args.words c.args.recordings {y = c.loop-y.y} (omega arith) in
    (omega (arith, (c.sufficing.ensures.fits c.if-not-sufficing.false).room), (c.sufficing.ensures.fits c.if-not-sufficing.false).few_words)

pub bounds-marks-y : goal.bounds-marks-y
bounds-marks-y c =
    omega (arith, (c.sufficing.ensures.fits c.if-not-sufficing.false).marks-fit)

pub overflow_add-count : goal.overflow_add-count
overflow_add-count c =
    let l = mark-small _ c.mark_of-m.ensures in
    let v = c.loop-y.invariant.0 in
    omega arith

pub loop-y-preserved : goal.loop-y-preserved
loop-y-preserved c =
    let a = c.args in
    let v = c.loop-y.invariant in
    let l = mark-small _ c.mark_of-m.ensures in
    let h : c.loop-y.y < length a.marks.now = omega (arith, (c.sufficing.ensures.fits c.if-not-sufficing.false).marks-fit) in (
      omega arith,
      marks-stored a.words a.reached.now a.accepting.now c.loop-y.y c.mark_of-m.result c.mark_of-m.ensures
          a.marks.now c.loop-y.marks h v.1,
      rw c.from-count.ensures
          (marks-counted a.words a.reached.now a.accepting.now c.loop-y.y c.mark_of-m.result c.mark_of-m.ensures c.loop-y.count v.2),
    )

pub returns : goal.returns
returns c =
    let v = c.loop-y.invariant in
    let e : c.loop-y.y ≡ c.args.recordings = omega arith in
    record { set = λ g. rw e at v.1; counted = λ g. rw e at v.2; unfit = λ n. absurd (n (c.sufficing.ensures.fits c.if-not-sufficing.false)) }
