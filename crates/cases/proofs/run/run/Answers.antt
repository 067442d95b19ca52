-- `run` is safe and ends: what is put and what is printed lie within the buffers.
use mathlib.Core.Path.{sym}
use native.Mathlib.Omega.{arith}
use lib.Seq.{length-take-le}
use Rattle.printing.specs.PrintLaws.{prints-within}
use Rattle.output.specs.Put.{ends-within}
use Rattle.cases.proofs.run.run.Goals as goal

pub slice_bounds-text-end : goal.slice_bounds-text-end
slice_bounds-text-end c = ends-within _ _ (omega arith) c.put_case-size.ensures

pub slice_bounds-print_at-end : goal.slice_bounds-print_at-end
slice_bounds-print_at-end c = sym (length-take-le _ _ (ends-within _ _ (omega arith) c.put_case-size.ensures))

pub slice_bounds-write_all-end : goal.slice_bounds-write_all-end
slice_bounds-write_all-end c = sym (length-take-le _ _ c.put_title-end.ensures)

pub slice_bounds-out-end : goal.slice_bounds-out-end
slice_bounds-out-end c = prints-within c.print_at-printed.ensures

pub slice_bounds-write_all-end-2 : goal.slice_bounds-write_all-end-2
slice_bounds-write_all-end-2 c = sym (length-take-le _ _ (prints-within c.print_at-printed.ensures))
