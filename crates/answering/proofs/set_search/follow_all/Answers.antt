use Rattle.std.specs.Prelude.{◌≡◌, ℕ, ◌-◌, ◌<◌, List, get_or}
use mathlib.Core.Path.{refl, sym, ◌∙◌, subst}
use Rattle.answering.specs.Pairs.{row_below}
use Rattle.answering.specs.Waiting.{waiting-most}
use Rattle.answering.specs.Grown.{Ready, row-pending, ready-pop, top_below, top-inside}
use Rattle.answering.specs.SetSearchRun.{few-rows, few-pairs, first-words, first-there, first-only}
use Rattle.answering.specs.SetSearchRun.{set-going-first, set-spreading, set-going-next, set-going-done}
use native.Mathlib.Omega.{arith}
use Rattle.answering.proofs.set_search.follow_all.Goals as goal

-- The recording on top is one of them.
taken-below : {w N x : ℕ} {R P S : List ℕ} {h : ℕ} → Ready w N R P S h → 0 < h → x ≡ get_or S (h - 1) 0 → x < N
taken-below {N = N} r l e = subst (λ x. x < N) (sym e) (top_below r l)

pub add_states-top-requires : goal.add_states-top-requires
add_states-top-requires c =
    let p = c.requires.0 in
    let e = c.put.auto.pairs in
    (p.ready, p.starting.fits.begins, omega (arith, first-words p.starting.fits c.requires.2))

pub loop-top-init : goal.loop-top-init
loop-top-init c =
    let f = c.requires.0.starting.fits in
    let b = c.requires.2 in
    let s = rw c.put.ensures at c.add_states-top.ensures in
    (refl, refl, refl, refl, set-going-first c.requires.0 (first-there f b) (first-only f b) s)

pub offset_bounds-stack-top : goal.offset_bounds-stack-top
offset_bounds-stack-top c =
    let r = c.loop-top.invariant.4.ready in omega (arith, waiting-most r.waiting, r.few)

pub bounds-stack-top : goal.bounds-stack-top
bounds-stack-top c =
    top-inside c.loop-top.invariant.4.ready c.loop-top-test.true

pub spread-requires : goal.spread-requires
spread-requires c =
    let p = c.requires in
    set-spreading p.0.starting.fits p.1 p.2 (row-pending c.loop-top.invariant.4.ready c.from-x.result (taken-below c.loop-top.invariant.4.ready c.loop-top-test.true c.from-x.ensures))
    (c.loop-top.invariant.1 ∙ c.put.auto.pairs)

pub overflow_mul-words : goal.overflow_mul-words
overflow_mul-words c =
    let z = c.args.sizes in
    omega (arith, row_below z.words z.recordings (taken-below c.loop-top.invariant.4.ready c.loop-top-test.true c.from-x.ensures), few-pairs c.requires.0.starting.fits)

pub zero_from-requires : goal.zero_from-requires
zero_from-requires c =
    row-pending c.loop-top.invariant.4.ready c.from-x.result (taken-below c.loop-top.invariant.4.ready c.loop-top-test.true c.from-x.ensures)

pub offset_bounds-begins-x : goal.offset_bounds-begins-x
offset_bounds-begins-x c =
    let l = taken-below c.loop-top.invariant.4.ready c.loop-top-test.true c.from-x.ensures in
    omega (arith, c.requires.0.ready.few)

pub bounds-begins-x : goal.bounds-begins-x
bounds-begins-x c =
    let l = taken-below c.loop-top.invariant.4.ready c.loop-top-test.true c.from-x.ensures in
    omega (arith, c.requires.3.fits)

pub follow_links-top-requires : goal.follow_links-top-requires
follow_links-top-requires c =
    let v = c.loop-top.invariant in
    let p = c.requires.0 in
    let d = c.spread.auto.images in
    let e = v.1 in
    let f = c.put.auto.pairs in (
      ready-pop v.4.ready c.loop-top-test.true c.from-x.ensures c.zero_from.auto.pairs
          c.zero_from.ensures,
      omega (arith, few-rows p.starting.fits, c.requires.2.rows),
      rw c.from.ensures (c.requires.3.first c.from-x.result (taken-below c.loop-top.invariant.4.ready c.loop-top-test.true c.from-x.ensures)),
    )

pub loop-top-preserved : goal.loop-top-preserved
loop-top-preserved c =
    let f = c.follow_links-top in
    let z = c.zero_from in
    let s = c.spread in
    let v = c.loop-top.invariant in
    let p = c.requires.0.starting.fits in (
      f.auto.reached ∙ v.0,
      s.auto.images ∙ v.1,
      f.auto.pending ∙ z.auto.pairs ∙ v.2,
      f.auto.stack ∙ v.3,
      set-going-next v.4 c.from-x.result p.width (taken-below c.loop-top.invariant.4.ready c.loop-top-test.true c.from-x.ensures) s.ensures z.ensures f.ensures,
    )

pub returns : goal.returns
returns c =
    let p = c.requires.0.starting.fits in
    set-going-done c.loop-top.invariant.4 (omega arith) p.begins p.width c.add_states-top.ensures.grown.beyond
