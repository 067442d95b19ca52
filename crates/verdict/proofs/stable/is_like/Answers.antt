-- A class that is known has what it has been given; one that is not gets it.
use mathlib.Core.Bool.{false≢true}
use mathlib.Core.Path.{◌∙◌}
use lib.Bits.{and_mask}
use borrow.Author.Tests.{eqb-true}
use Rattle.verdict.specs.StableTurns.{liked-known, liked-new}
use native.Mathlib.Omega.{arith}
use Rattle.verdict.proofs.stable.is_like.Goals as goal

pub returns-then-merged-c : goal.returns-then-merged-c
returns-then-merged-c c = λ e. absurd (false≢true e)

pub returns-then-known-c-eq1 : goal.returns-then-known-c-eq1
returns-then-known-c-eq1 c = λ e. liked-known _ _ _ _ _ _ c.if-merged-c.false (eqb-true _ _ e)

pub returns : goal.returns
returns c =
    let s = c in
    λ e. liked-new s.args.c s.args.set s.args.kind s.args.known s.args.merged.now s.args.entering.now
    (omega (arith, s.requires.0, s.requires.1)) (omega (arith, s.requires.0, s.requires.2)) (λ m. c.if-known-c-eq1.false (and_mask _ 1 ∙ m))
