use Rattle.std.specs.Prelude.{◌≡◌, get_or, replicate}
use mathlib.Core.Path.{ap, ◌∙◌}
use lib.Seq.{length-take-le}
use native.Mathlib.Omega.{arith}
use borrow.Author.Rules.{rules}
use Rattle.finding.specs.Padded.{cleared-zero}
use Rattle.finding.proofs.sources.clear_moved.Goals as goal

pub returns-then-count-gt16 : goal.returns-then-count-gt16
returns-then-count-gt16 c = λ t h. ap (λ l. get_or l t 0) (c.clear.ensures.enough (omega arith)) ∙ cleared-zero c.args.count t _ h

pub returns : goal.returns
returns c = λ t h.
    let moved = c.args.moved.now in
    let e : c.fill.new.self ≡ replicate 16 0 =
    c.fill.ensures.after (search rules) ∙ ap (λ n. replicate n 0) (length-take-le 16 moved (omega arith)) in
    rw e (cleared-zero 16 t moved (omega arith))
