use Rattle.std.specs.Prelude.{◌≡◌, false}
use Rattle.std.proofs.Common.{sym, ◌∙◌, arith, below_more}
use Rattle.places.specs.Words.{number_of}
use Rattle.verdict.specs.PairTable.{pair_at}
use Rattle.verdict.specs.Missing.{misses_with}
use Rattle.verdict.proofs.verdict.first_missed.Goals as goal

pub loop-i-init : goal.loop-i-init
loop-i-init c = λ k h. absurd (omega arith)

pub misses-requires : goal.misses-requires
misses-requires c = omega (arith, c.requires)

pub returns-then-misses : goal.returns-then-misses
returns-then-misses c =
    let l = c.loop-i in
    (omega arith, record { inside = omega arith; before = l.invariant; here = λ h. sym c.misses.ensures ∙ c.if-misses.true })

pub loop-i-preserved : goal.loop-i-preserved
loop-i-preserved c =
    let l = c.loop-i in
    below_more (λ k. misses_with c.args.ends (number_of c.args.yields.words) (pair_at c.args.workspace.now k) ≡ false) l.i l.invariant
    (sym c.misses.ensures ∙ c.if-misses.false)

pub returns : goal.returns
returns c = record { inside = omega arith; before = λ k h. c.loop-i.invariant k (omega arith); here = λ h. absurd (omega arith) }
