use mathlib.Core.Path.{refl, ◌∙◌}
use lib.Pow.{pow_mono}
use Rattle.places.proofs.Held.{array_count}
use Rattle.verdict.specs.FirstCover.{start-stands}
use Rattle.verdict.specs.NextCover.{way-places}
use Rattle.verdict.specs.Prepared.{rows-kept}
use Rattle.verdict.specs.PairIndexLaws.{indexed-none, short_none, short-more}
use Rattle.verdict.specs.PairRows.{sweep-start, sweep-turn, sweep-exceeds, pairs-told, told-before}
use native.Mathlib.Omega.{arith}
use Rattle.verdict.proofs.pairs.sweep.Goals as goal

pub used_words-used-requires : goal.used_words-used-requires
used_words-used-requires c = rw c.columns-w.ensures (λ h. (way-places c.requires.4 h).1)

pub first_cover-start-requires : goal.first_cover-start-requires
first_cover-start-requires c = c.used_words-used.ensures

pub bucket-at-requires : goal.bucket-at-requires
bucket-at-requires c = (c.used_words-used.ensures.within, c.first_cover-start.ensures.2)

pub add-requires : goal.add-requires
add-requires c =
    let cover = c.first_cover-start in
    let s = c in (
      omega (arith, s.requires.0, s.requires.3),
      omega arith,
      array_count 16 cover.result.words _ cover.type_inv.1.1.0,
      c.bucket-at.ensures,
      indexed-none s.args.workspace.now,
    )

pub loop-i-init : goal.loop-i-init
loop-i-init c =
    let first = c in
    let cover = c.first_cover-start in
    let s = c in
    let used = rw c.columns-w.ensures at c.used_words-used.ensures in
    let told = rw c.columns-w.ensures at cover.ensures in
    let started =
    start-stands s.requires.4 s.args.first.now cover.result.words s.requires.5 told.0
    (λ h fits. told.1 h (omega (arith, fits, pow_mono (used.turned h)))) in (
      sweep-start _ _ _ s.args.workspace.now first.add.new.workspace cover.result.words s.requires.0
          (array_count 16 cover.result.words _ cover.type_inv.1.1.0) started first.add.ensures.0,
      first.add.ensures.1,
      short-more first.add.ensures.0 (array_count 16 cover.result.words _ cover.type_inv.1.1.0) cover.ensures.2 (short_none _ s.args.workspace.now),
      refl,
    )

pub row-found-requires : goal.row-found-requires
row-found-requires c =
    let l = c.loop-i in
    let s = c in (
      c.loop-i-test.true,
      l.invariant.0.within,
      s.requires.1,
      s.requires.2,
      omega (arith, l.invariant.0.size, c.add.ensures.0.size, s.requires.3),
      l.invariant.1,
      rw c.columns-w.ensures at c.used_words-used.ensures,
      l.invariant.2,
      s.requires.4,
      omega (arith, l.invariant.3, s.requires.6),
      λ h. rows-kept (s.requires.7 h) l.invariant.3,
    )

pub returns-in_err-n : goal.returns-in_err-n
returns-in_err-n c =
    let l = c.loop-i in
    let first = c in
    let s = c in
    let r = c.row-found in
    rw c.from_residual.ensures (
    told-before _ _ _ _ first.add.new.workspace _ _ r.new.workspace s.requires.0 first.add.ensures.0
    (sweep-exceeds _ _ _ first.add.new.workspace l.i l.n l.workspace l.invariant.0 c.loop-i-test.true
    r.result r.new.workspace r.ensures.row_told c.in_err-n.was)
    )

pub overflow_add-i : goal.overflow_add-i
overflow_add-i c = omega (arith, c.loop-i-test.true, c.loop-i.invariant.0.within, c.requires.1)

pub loop-i-smaller : goal.loop-i-smaller
loop-i-smaller c = omega (arith, c.loop-i-test.true, c.loop-i.invariant.0.within)

pub loop-i-preserved : goal.loop-i-preserved
loop-i-preserved c =
    let l = c.loop-i in
    let first = c in
    let r = c.row-found in (
      sweep-turn _ _ _ first.add.new.workspace l.i l.n l.workspace l.invariant.0 c.loop-i-test.true r.result
          r.new.workspace r.ensures.row_told _ c.in_ok-n.was r.auto.workspace,
      r.ensures.indexed.0 _ c.in_ok-n.was,
      r.ensures.indexed.1 _ c.in_ok-n.was,
      r.auto.laid ∙ l.invariant.3,
    )

pub shape_of-laid : goal.shape_of-laid
shape_of-laid c = c.loop-i.invariant.3

pub shape_of-workspace : goal.shape_of-workspace
shape_of-workspace c = c.loop-i.invariant.0.size ∙ c.add.ensures.0.size

pub returns : goal.returns
returns c =
    let l = c.loop-i in
    let first = c in
    let s = c in
    told-before _ _ _ _ first.add.new.workspace _ _ l.workspace s.requires.0 first.add.ensures.0
    (pairs-told _ _ _ first.add.new.workspace l.i l.n l.workspace l.invariant.0 c.loop-i-test.false s.requires.1
    (omega (arith, s.requires.3, first.add.ensures.0.size)))
