-- `load` meets its contract: its tables have all rows.
use Rattle.reading.specs.RowRoom.{all-rows}
use native.Mathlib.Omega.{arith}
use Rattle.reading.proofs.reader.load.Goals as goal

pub load_rows-requires : goal.load_rows-requires
load_rows-requires c = all-rows _ (omega arith) (omega arith)
