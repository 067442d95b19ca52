-- The test of the place.
use mathlib.Core.Path.{sym}
use Rattle.verdict.specs.ColumnLists.{when-has, when-lacks, tested, not_tested}
use Rattle.verdict.proofs.column_steps.ending.Goals as goal

pub returns-then-accepting-p-eq1 : goal.returns-then-accepting-p-eq1
returns-then-accepting-p-eq1 c =
    let s = c in
    sym (when-has s.args.p s.args.accepting s.args.states (tested s.args.p s.args.accepting c.if-accepting-p-eq1.true))

pub returns : goal.returns
returns c =
    let s = c in
    sym (when-lacks s.args.p s.args.accepting s.args.states (not_tested s.args.p s.args.accepting c.if-accepting-p-eq1.false))
