-- The row lies across two words, or in one.
use mathlib.Core.Path.{◌∙◌}
use Rattle.verdict.specs.RowsLaws.{row_here, row-across}
use native.Mathlib.Omega.{arith}
use borrow.Author.Rules.{rules}
use Rattle.verdict.proofs.rows.row_at.Goals as goal

pub returns-then-bits-w-gt64 : goal.returns-then-bits-w-gt64
returns-then-bits-w-gt64 c =
    let s = c in
    c.lowest.ensures
    ∙ row-across s.args.words.now (λ i. search rules) s.args.at s.args.w s.requires.2 c.if-bits-w-gt64.true

pub returns : goal.returns
returns c =
    let s = c in
    c.lowest-2.ensures
    ∙ row_here s.args.words.now (λ i. search rules) s.args.at s.args.w s.requires.2 (omega (arith, c.if-bits-w-gt64.false))
