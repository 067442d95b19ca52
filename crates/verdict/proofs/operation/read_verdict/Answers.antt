-- `read_verdict` meets its contract: the text is read into tables of six rows or of 17.
use lib.ListN.{length-replicate}
use Rattle.std.specs.Prelude.{ℕ}
use Rattle.reading.specs.RowRoom.{enough-rows, all-rows}
use native.Mathlib.Omega.{arith}
use Rattle.verdict.proofs.operation.read_verdict.Goals as goal

pub verdict_in-requires : goal.verdict_in-requires
verdict_in-requires c =
    let z : ℕ = 0 in
    record {
      rows = enough-rows 6 c.lists_at_most.result c.args.text.now c.lists_at_most.ensures (omega arith)
          (omega (arith, length-replicate 384 z)) (omega (arith, length-replicate 192 z));
      small = (omega arith, omega arith);
      lent = c.requires;
    }

pub verdict_in-requires-else-lists_at_most-le4 : goal.verdict_in-requires-else-lists_at_most-le4
verdict_in-requires-else-lists_at_most-le4 c =
    let z : ℕ = 0 in
    record {
      rows = all-rows _ (omega (arith, length-replicate 1088 z)) (omega (arith, length-replicate 544 z));
      small = (omega arith, omega arith);
      lent = c.requires;
    }
