use Rattle.std.specs.Prelude.{◌≡◌}
use Rattle.answering.specs.StateSets.{filled-all, filled-start, filled-state}
use native.Mathlib.Omega.{arith}
use Rattle.answering.proofs.state_sets.put_rows.Goals as goal

pub loop-r-init : goal.loop-r-init
loop-r-init c =
    filled-start c.requires.1

pub loop-r-preserved : goal.loop-r-preserved
loop-r-preserved c =
    filled-state c.loop-r.r c.put_row.ensures

pub returns : goal.returns
returns c =
    let l = c.loop-r in
    let e : l.r ≡ c.args.ranked.count = omega arith in
    filled-all (omega (arith, c.requires.0)) (rw e at l.invariant)
