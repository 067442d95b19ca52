-- `lines` meets its contract. The loop's invariant: what is left of the text gives what the whole gives, from what the tables hold; there
-- are no more lines than bytes, and the tables are the ones lent.
use Prim.Native.Nat.{◌+◌, ◌-◌, ◌≤◌}
use lib.ListN.{length}
use Rattle.reading.specs.Lent.{held, SameMemory}
use Rattle.reading.specs.Underway.{Underway}
use Rattle.reading.proofs.reader.lines.Given as goal

abbrev pub invariant-loop-at : goal.invariant-loop-at
invariant-loop-at l = record {
  within : l.at ≤ length l.text;
  few : l.n ≤ l.at + 1;
  underway : Underway l.text l.at l.n l.p (held l.tables);
  same : SameMemory l.initial.tables l.tables;
}

abbrev pub decreases-loop-at : goal.decreases-loop-at
decreases-loop-at l = length l.text - l.at
