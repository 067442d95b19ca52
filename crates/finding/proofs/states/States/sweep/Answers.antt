use Rattle.std.specs.Prelude.{set}
use native.Mathlib.Omega.{arith}
use Rattle.finding.specs.StatesExploring.{in-sweep-start, in-sweep-more, in-sweep-over, in-sweep-end}
use Rattle.finding.specs.NumberIndexLaws.{indexed-first}
use Rattle.finding.proofs.states.States.sweep.Goals as goal

pub loop-s-init : goal.loop-s-init
loop-s-init c =
    let s = c.args.self.now in (
      in-sweep-start s.found s.parents s.symbols c.args.table.now c.requires.0 c.requires.1,
      rw (c.requires.2.0, c.requires.2.1) (indexed-first (set s.found 0 1)),
    )

pub row-requires : goal.row-requires
row-requires c =
    let inv = c.loop-s.invariant in
    (c.loop-s-test.true, inv.0.within, inv.0.room, inv.1)

pub returns-in_err-n : goal.returns-in_err-n
returns-in_err-n c =
    rw c.from_residual.ensures (in-sweep-over c.loop-s.invariant.0 c.loop-s-test.true c.row.ensures.swept c.in_err-n.was)

pub loop-s-preserved : goal.loop-s-preserved
loop-s-preserved c =
    let e = c.row in (
      in-sweep-more c.loop-s.invariant.0 c.loop-s-test.true e.ensures.swept c.args.images.fit.1 c.in_ok-n.was e.ensures.kept,
      e.ensures.indexed _ c.in_ok-n.was,
    )

pub overflow_add-s : goal.overflow_add-s
overflow_add-s c = omega (arith, c.loop-s.invariant.0.within)

pub loop-s-smaller : goal.loop-s-smaller
loop-s-smaller c = omega (arith, c.loop-s.invariant.0.within)

pub returns : goal.returns
returns c =
    let l = c.loop-s in
    in-sweep-end c.args.images.fit.1 l.invariant.0 c.loop-s-test.false
