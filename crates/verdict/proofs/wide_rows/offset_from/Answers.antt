-- The start has the offset 0, an occurrence comes after `base`.
use mathlib.Core.Path.{sym}
use Rattle.verdict.specs.ColumnOffsets.{offset-none, offset-some}
use Rattle.verdict.proofs.wide_rows.offset_from.Goals as goal

pub returns-then-o-eq0 : goal.returns-then-o-eq0
returns-then-o-eq0 c = sym (offset-none c.args.base c.args.o c.if-o-eq0.true)

pub returns : goal.returns
returns c = sym (offset-some c.args.base c.args.o c.if-o-eq0.false)
