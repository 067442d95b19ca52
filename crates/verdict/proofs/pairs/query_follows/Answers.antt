-- The follow sets of the query's part of the table.
use Rattle.std.specs.Prelude.{◌+◌, get_or}
use mathlib.Core.Path.{sym}
use lib.Seq.{length-take-le}
use native.Mathlib.Omega.{arith}
use Rattle.verdict.proofs.pairs.query_follows.Goals as goal

pub slice_bounds-follows-end : goal.slice_bounds-follows-end
slice_bounds-follows-end c =
    let s = c in
    sym (length-take-le (get_or s.args.sizes.now 0 0 + 1) s.args.follow.now (omega (arith, c.if-size-gt63.false, c.if-follow-lt64.false)))

pub returns : goal.returns
returns c = record { told = λ size room some. c.follows-next.ensures }
