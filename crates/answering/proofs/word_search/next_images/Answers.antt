-- `next_images` meets its contract: the rows are cut, and the images stay; or they are made anew, and none of their states is left out.
use Rattle.std.specs.Prelude.{◌+◌, ◌≤◌, length}
use mathlib.Core.Path.{subst}
use native.Mathlib.Nat.{one-mul}
use Rattle.answering.specs.WordSteps.{rows_of, cut-images, spread-images, row_inside}
use native.Mathlib.Omega.{arith}
use Rattle.answering.proofs.word_search.next_images.Goals as goal

pub join-requires : goal.join-requires
join-requires c =
    let a = c.args in
    λ s m.
    let h = subst (λ cut. rows_of cut a.symbols (s + 1) ≤ length a.rows.now) c.if-cut.true (c.requires.inside s m) in
    let e = one-mul s in omega arith

pub returns-then-cut : goal.returns-then-cut
returns-then-cut c =
    let a = c.args in
    cut-images a.symbols a.rows.now a.images.now c.if-cut.true (omega arith) c.join.ensures

pub spread_word-requires : goal.spread_word-requires
spread_word-requires c =
    let a = c.args in (
      λ s b m h. row_inside a.symbols s h
          (subst (λ cut. rows_of cut a.symbols (s + 1) ≤ length a.rows.now) c.if-cut.false (c.requires.inside s m)),
      c.requires.fits,
    )

pub returns : goal.returns
returns c =
    spread-images c.if-cut.false (omega arith) c.spread_word.ensures
