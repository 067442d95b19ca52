-- `main` is safe and ends: what `read_input` and `print` tell lies within the buffers.
use mathlib.Core.Path.{sym}
use lib.Seq.{length-take-le}
use Rattle.printing.specs.PrintLaws.{prints-within}
use Rattle.rewrite.proofs.main.Goals as goal

pub slice_bounds-out-end : goal.slice_bounds-out-end
slice_bounds-out-end c = prints-within c.print-size.ensures

pub slice_bounds-write_all-end : goal.slice_bounds-write_all-end
slice_bounds-write_all-end c = sym (length-take-le _ _ (prints-within c.print-size.ensures))
