use mathlib.Core.Path.{refl, sym, ◌∙◌}
use borrow.Author.Tests.{eqb-true, eqb-false}
use Rattle.verdict.specs.CoverRounds.{rounds-start, rounds-same, rounds-turn, rounds-end}
use native.Mathlib.Omega.{arith}
use Rattle.verdict.proofs.cover.settled.Goals as goal

pub overflow_mul-count : goal.overflow_mul-count
overflow_mul-count c = omega (arith, c.requires.few-places)

pub loop-round-init : goal.loop-round-init
loop-round-init c = (refl, rounds-start _ _ _ _ _ _ _)

pub returns-then-same : goal.returns-then-same
returns-then-same c =
    let s = c in
    let l = c.loop-round in
    rounds-same s.args.states s.args.lists s.args.sizes.now s.args.accepting.now s.args.table.now s.args.w s.requires s.args.first.words l.set.words l.fresh.words c.round-next.result.words l._round
    (omega (arith, l.invariant.0, c.loop-round-test.true)) l.invariant.1 c.round-next.ensures
    (eqb-true _ _ (sym c.same.ensures ∙ c.if-same.true))

pub loop-round-preserved : goal.loop-round-preserved
loop-round-preserved c =
    let s = c in
    let l = c.loop-round in (
      l.invariant.0,
      rounds-turn s.args.states s.args.lists s.args.sizes.now s.args.accepting.now s.args.table.now s.args.w s.requires s.args.first.words l.set.words l.fresh.words c.round-next.result.words c.without-fresh.result.words l._round
          (omega (arith, l.invariant.0, c.loop-round-test.true)) l.invariant.1 c.round-next.ensures
          (eqb-false _ _ (sym c.same.ensures ∙ c.if-same.false)) c.without-fresh.ensures,
    )

pub returns : goal.returns
returns c =
    let s = c in
    let l = c.loop-round in
    rounds-end s.args.states s.args.lists s.args.sizes.now s.args.accepting.now s.args.table.now s.args.w s.requires s.args.first.words l.set.words l.fresh.words l._round (omega (arith, l.invariant.0, c.loop-round-test.false)) l.invariant.1
