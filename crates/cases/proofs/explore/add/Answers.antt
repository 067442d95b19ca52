-- `add` meets its contract: a set is put only where there is room.
use native.Mathlib.Omega.{arith}
use lib.ListN.{length-set}
use Rattle.cases.proofs.explore.add.Goals as goal

pub returns : goal.returns
returns c =
    let s = c in
    omega (arith, length-set s.args.found.now s.args.n s.args.set)
