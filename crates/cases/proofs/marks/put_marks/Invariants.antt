-- `put_marks` meets its contract. The loop's invariant: the writer's place lies within its buffer, which keeps its length.
use Rattle.std.specs.Prelude.{◌≡◌, ◌≤◌, length}
use Rattle.cases.proofs.marks.put_marks.Given as goal

abbrev pub invariant-loop-mark : goal.invariant-loop-mark
invariant-loop-mark l = record {
  within : l.w.at ≤ length l.w.out.now;
  same : length l.w.out.now ≡ length l.initial.w.out.now;
}
