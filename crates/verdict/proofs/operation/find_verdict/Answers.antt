-- `find_verdict` meets its contract: the verdict runs on the rewriting that Find finds, and where it finds none, its refusal is told.
use Rattle.verdict.specs.VerdictOperationLaws.{few-states, found-judged, found-refused}
use native.Mathlib.Omega.{arith}
use Rattle.verdict.proofs.operation.find_verdict.Goals as goal

pub find_rows-requires : goal.find_rows-requires
find_rows-requires c =
    let z = c.requires.1 in record { standings = omega arith; states = omega arith; rows = z.table-room; marks = z.flags-room }

pub found_verdict-requires : goal.found_verdict-requires
found_verdict-requires c =
    let z = c.requires.1 in (
      few-states c.find_rows.ensures c.requires.0 c.in-Ok.is,
      record { few = z.few; table-room = omega arith; flags-room = omega arith; path_room = z.path_room; room = z.room },
    )

pub returns-in-Ok : goal.returns-in-Ok
returns-in-Ok c = found-judged c.find_rows.ensures c.in-Ok.is c.found_verdict.ensures

pub returns-in-Err : goal.returns-in-Err
returns-in-Err c = found-refused c.find_rows.ensures c.in-Err.is
