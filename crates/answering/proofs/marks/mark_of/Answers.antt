use Rattle.std.specs.Prelude.{◌≡◌}
use mathlib.Core.Path.{refl, sym, ap, ◌∙◌}
use Rattle.answering.specs.MarksLaws.{mark_of}
use Rattle.answering.specs.Marks.{meets}
use Rattle.answering.specs.MarksSteps.{meets-next, mark-told}
use native.Mathlib.Omega.{arith}
use Rattle.answering.proofs.marks.mark_of.Goals as goal

pub loop-k-init : goal.loop-k-init
unfolding meets
loop-k-init c = refl

pub loop-k-preserved : goal.loop-k-preserved
loop-k-preserved c =
    let a = c.args in
    let l = c.loop-k in
    meets-next a.reached.now a.accepting.now a.base l.k l.common l.invariant

pub returns : goal.returns
returns c =
    let e : c.loop-k.k ≡ c.args.words = omega arith in
    c.from.ensures ∙ mark-told _ ∙ ap mark_of (sym (rw e at c.loop-k.invariant))
