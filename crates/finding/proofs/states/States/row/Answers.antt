use native.Mathlib.Omega.{arith}
use Rattle.finding.specs.StatesExploring.{sizes-on, in-row-start, in-row-more, in-row-over, in-row-end}
use Rattle.finding.specs.NumberIndexLaws.{indexed-all, indexed-over}
use Rattle.finding.proofs.states.States.row.Goals as goal

pub loop-list-init : goal.loop-list-init
loop-list-init c = let held = c.requires in (in-row-start held.0 held.1 held.2, held.3)

pub extend-requires : goal.extend-requires
extend-requires c =
    let inv = c.loop-list.invariant.0 in
    (c.loop-list-test.true, omega (arith, c.requires.0, inv.kept), inv.within, inv.room, c.loop-list.invariant.1)

pub returns-in_err-m : goal.returns-in_err-m
returns-in_err-m c =
    rw c.from_residual.ensures
    (record {
      swept = in-row-over c.loop-list.invariant.0 c.loop-list-test.true c.args.images.fit.1 c.extend.ensures.extended c.in_err-m.was;
      kept = sizes-on c.loop-list.invariant.0.sizes c.extend.ensures.kept;
      indexed = indexed-over;
    })

pub loop-list-preserved : goal.loop-list-preserved
loop-list-preserved c =
    let e = c.extend in (
      in-row-more c.loop-list.invariant.0 c.loop-list-test.true c.args.images.fit.1 e.ensures.extended c.in_ok-m.was e.ensures.kept,
      e.ensures.indexed _ c.in_ok-m.was,
    )

pub returns : goal.returns
returns c =
    let l = c.loop-list in
    record { swept = in-row-end l.invariant.0 c.loop-list-test.false; kept = l.invariant.0.sizes; indexed = indexed-all l.invariant.1 }
