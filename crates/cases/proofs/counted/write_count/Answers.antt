-- `write_count` is safe and ends: what is put lies within the line.
use mathlib.Core.Path.{sym}
use lib.Seq.{length-take-le}
use Rattle.cases.proofs.counted.write_count.Goals as goal

pub slice_bounds-write_all-end : goal.slice_bounds-write_all-end
slice_bounds-write_all-end c = sym (length-take-le _ _ c.put_count-end.ensures)
