use Rattle.std.specs.Prelude.{◌<◌, length}
use mathlib.Core.Path.{◌∙◌}
use lib.Seq.{get_or-set_same, get_or-set_other}
use borrow.Author.Count.{below_more}
use native.Mathlib.Omega.{arith}
use Rattle.answering.proofs.word_search.spread_word.Goals as goal

pub join-requires : goal.join-requires
join-requires c =
    λ s m. c.requires.0 s c.loop-a.a m (omega arith)

pub loop-a-preserved : goal.loop-a-preserved
loop-a-preserved c =
    let l = c.loop-a in
    let h : l.a < length l.images = omega (arith, c.requires.1) in
    let v = c.join.result in
    below_more _ _ (λ b k. get_or-set_other l.images l.a b v 0 (λ q. omega arith) ∙ l.invariant b k)
    (get_or-set_same l.images l.a v 0 h ∙ c.join.ensures)

pub returns : goal.returns
returns c =
    λ a h. c.loop-a.invariant a (omega arith)
