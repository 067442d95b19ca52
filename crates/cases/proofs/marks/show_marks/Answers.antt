-- `show_marks` is safe and ends: the text lies within its buffer.
use mathlib.Core.Path.{sym}
use native.Mathlib.Omega.{arith}
use lib.Seq.{length-take-le}
use Rattle.output.specs.Put.{ends-within}
use Rattle.cases.proofs.marks.show_marks.Goals as goal

pub slice_bounds-text-end : goal.slice_bounds-text-end
slice_bounds-text-end c = ends-within _ _ (omega arith) c.put_case-size.ensures

pub slice_bounds-job-end : goal.slice_bounds-job-end
slice_bounds-job-end c = sym (length-take-le _ _ (ends-within _ _ (omega arith) c.put_case-size.ensures))
