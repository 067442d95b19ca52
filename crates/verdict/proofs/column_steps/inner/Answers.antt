-- The places after the start, cut at the list's size.
use lib.Pow.{pow_pos}
use Rattle.verdict.specs.WordBits.{one_bit}
use Rattle.verdict.specs.ColumnLists.{inner-exactly}
use native.Mathlib.Omega.{arith}
use Rattle.verdict.proofs.column_steps.inner.Goals as goal

pub overflow_sub-result : goal.overflow_sub-result
overflow_sub-result c = omega (arith, one_bit c.args.size (omega arith), pow_pos c.args.size)

pub returns : goal.returns
returns c = inner-exactly c.args.set c.args.size c.requires
